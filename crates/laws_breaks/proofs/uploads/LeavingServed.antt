-- What the server does while its client has still to leave the data connection of which the server was told that it broke: a world is beside one that has left
-- it.
use Rattle.std.proofs.Common.{◌≡◌, ℕ, true, false, true≢false, List, ◌∷◌, Some, None, refl, sym, ap, ◌∙◌}
use Rattle.ftp_ports.specs.Asking.{Reset}
use Rattle.ftp_ports.specs.Actions.{Action, Done, Other, Stand}
use Rattle.ftp_ports.specs.Machine.{Break, Left}
use Rattle.ftp_client_driver.specs.Side.{client_side}
use Rattle.ftp_server_driver.specs.alone.Side.{server_side}
use Rattle.ftp_server_model.specs.Machine.{IsReading, Reading}
use Rattle.laws_world.specs.Claims.{Beginning, IsFair}
use Rattle.laws_drivers.specs.control.Alone.{ServerIsCalm}
use Rattle.laws_drivers.specs.control.Between.{Between, Can, Far as TheServer}
use Rattle.laws_drivers.specs.control.Touches.{Accepts, Dials, Ends, IsDenied, IsMissed, Listens, None_of_it, Parts, Reads, Resets, Says, Takes, ToldBreak, ToldEnd, Touch, Writes, touch_in}
use Rattle.laws_drivers.specs.events.Actions.{ArePorts, listened_in}
use Rattle.laws_drivers.specs.events.Moments.{AreMoments, IsToldAt, begun_at, last_of, number_in}
use Rattle.laws_breaks.specs.downloads.Actions.{IsYielding}
use Rattle.laws_breaks.proofs.downloads.Lagging.{OfMarks}
use Rattle.laws_breaks.proofs.downloads.Drained.{BreaksNot, IsLone, dried, dried_step, dried_told}
use Rattle.laws_breaks.proofs.downloads.Seen.{Sees}
use Rattle.laws_breaks.proofs.downloads.Steps.{server_step}
use Rattle.laws_breaks.proofs.downloads.Unbroken.{is_dialled, serving_dials}
use Rattle.laws_breaks.proofs.downloads.Unsent.{AskAll, all_carried}
use Rattle.laws_breaks.proofs.uploads.Leaving.{Leaves, gone, lost, out_hold}
use Rattle.laws_breaks.proofs.uploads.Seen.{is_left}

-- it can be done beside one that has left it
pub can_lost : (touch : Touch) (p q : Between) → is_dialled touch ≡ false → is_left p.far ≡ true → Can TheServer touch p q
    → Can TheServer touch (lost p) (lost q) × (is_left q.far ≡ true)
can_lost None_of_it p q dials left can = (ap lost can, ap (λ (m : Between). is_left m.far) can ∙ left)
can_lost (Says octets) p q dials left can = (ap lost can, ap (λ (m : Between). is_left m.far) can ∙ left)
can_lost (Reads octets) p q dials left can = ((can.0, ap lost can.1), ap (λ (m : Between). is_left m.far) can.1 ∙ left)
can_lost Parts p q dials left can = (ap lost can, ap (λ (m : Between). is_left m.far) can ∙ left)
can_lost (Listens None) p q dials left can = (ap lost can, ap (λ (m : Between). is_left m.far) can ∙ left)
can_lost (Listens (Some port)) p q dials left can = ((can.0, ap lost can.1), ap (λ (m : Between). is_left m.far) can.1)
can_lost (Dials endpoint) p q dials left can = absurd (true≢false dials)
can_lost (Accepts host) p q dials left can = absurd (true≢false (sym left ∙ ap is_left can.0))
can_lost (IsDenied endpoint) p q dials left can = (ap lost can, ap (λ (m : Between). is_left m.far) can ∙ left)
can_lost IsMissed p q dials left can = (ap lost can, ap (λ (m : Between). is_left m.far) can ∙ left)
can_lost (Writes octets) p q dials left can = absurd (true≢false (sym left ∙ ap is_left can.0))
can_lost (Takes octets) p q dials left can = absurd (true≢false (sym left ∙ ap is_left can.0))
can_lost Ends p q dials left can = absurd (true≢false (sym left ∙ ap is_left can.0))
can_lost Resets p q dials left can = ((can.0, ap lost can.1), ap (λ (m : Between). is_left m.far) can.1)
can_lost ToldEnd p q dials left can = ((ap out_hold can.0, refl, ap lost can.2), ap (λ (m : Between). is_left m.far) can.2 ∙ left)
can_lost ToldBreak p q dials left can = absurd (true≢false (sym left ∙ ap is_left can.0))

-- so can what a world of downloads sees
sees_lost : (action : Action server_side) (server : Stand server_side) → IsLone action server.owner → (p q : Between) → is_left p.far ≡ true
    → Sees action server p q → Sees action server (lost p) (lost q) × (is_left q.far ≡ true)
sees_lost (Other (Left (Reset left written))) server is p q out can = ((can.0, ap lost can.1), ap (λ (m : Between). is_left m.far) can.1)
sees_lost (Other Break) server is p q out can = absurd is
sees_lost action server is p q out can = can_lost (touch_in action) p q (serving_dials action server.owner is) out can

-- so it goes on
pub leave_served : (read : Reading) (reads : IsReading read) (moments : ℕ → ℕ) (timed : AreMoments moments) (b : Beginning) (fair : IsFair b)
    {Are : OfMarks} (action : Action server_side) → BreaksNot action → (actions : List (Action client_side)) → AskAll (begun_at moments actions)
    → (before : List (Action server_side))
    → ArePorts (action ∷ before) → (p q : Between) (old new : Stand server_side) (client : Stand client_side)
    → Leaves read reads moments timed b fair Are actions p (listened_in before) (dried old) client → IsYielding action old.owner → ServerIsCalm old.owner new.owner
    → Sees action (dried old) p q → (did : Done action old new) → IsToldAt action old new did (last_of moments (number_in actions))
    → Leaves read reads moments timed b fair Are actions q (listened_in (action ∷ before)) (dried new) client
leave_served read reads moments timed b fair {Are} action kept actions puts before ports p q old new client l is calm can did told =
    let step = dried_step old new action kept is did in
    let there = sees_lost action (dried old) step.0 p q l.far can in
    let got = server_step read reads moments timed b fair action (dried old) (dried new) step.0 calm actions (all_carried (begun_at moments actions) puts) before
    ports (lost p) (lost q) there.0 (gone client) l.whole.at step.1
    (dried_told old new action kept is did (last_of moments (number_in actions)) told) in
    record {
      whole = record {
        at = got.0;
        marks = l.whole.marks;
        are_marks = l.whole.are_marks;
        marked = got.1 ∙ l.whole.marked;
        unsent = l.whole.unsent;
      };
      stands = l.stands;
      far = there.1;
    }
