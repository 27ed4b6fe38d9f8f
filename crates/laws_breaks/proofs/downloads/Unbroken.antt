-- What a server does between can be done where the client was not told of a break.
use Rattle.std.proofs.Common.{◌≡◌, Bool, true, false, true≢false, [], ◌∷◌, Some, None, refl, sym, ap, ◌∙◌}
use Rattle.ftp_ports.specs.Asking.{Came, Ended as EndedBy, Reset, Shut}
use Rattle.ftp_ports.specs.Actions.{Action, Heard, Other, Read, Said as SaysAction, Stand}
use Rattle.ftp_ports.specs.Machine.{Aside, Break, Closed, End, Failed, Gave, Got, Held, Left, LetGo, Listening, Opened, Received, Waited, Wrote}
use Rattle.ftp_server_driver.specs.alone.Side.{Timed, server_side}
use Rattle.laws_drivers.specs.control.Between.{Between, Can, Far as TheServer, Has_ended, Has_lost, Hold}
use Rattle.laws_drivers.specs.control.Touches.{Accepts, Dials, Ends, IsDenied, IsMissed, Listens, None_of_it, Parts, Reads, Resets, Says, Takes, ToldBreak, ToldEnd, Touch, Writes, touch_in}
use Rattle.laws_breaks.proofs.downloads.Drained.{IsLone}
use Rattle.laws_breaks.proofs.downloads.Lagging.{unbroken}
use Rattle.laws_breaks.proofs.downloads.Seen.{Sees}

-- it dials
abbrev pub is_dialled : Touch → Bool
is_dialled (Dials endpoint) = true
is_dialled touch = false

abbrev is_ended : Hold → Bool
is_ended Has_ended = true
is_ended hold = false

-- no action of such a server dials
pub serving_dials : (action : Action server_side) (at : Held Timed) → IsLone action at → is_dialled (touch_in action) ≡ false
serving_dials (Heard octets) at is = refl
serving_dials (SaysAction octets) at is = refl
serving_dials (Read octets) at is = refl
serving_dials (Other (Aside asked)) at is = refl
serving_dials (Other (Listening port)) at is = refl
serving_dials (Other (Opened host (Came from left written ∷ []) at_first so_far rest)) at is = refl
serving_dials (Other (Got octets)) at is = refl
serving_dials (Other (Received octets count)) at is = refl
serving_dials (Other End) at is = refl
serving_dials (Other (Gave count octets rest)) at is = refl
serving_dials (Other (Wrote octets)) at is = refl
serving_dials (Other (Waited lost)) at is = refl
serving_dials (Other (LetGo octets)) at is = refl
serving_dials (Other (Left (EndedBy left written))) at is = refl
serving_dials (Other (Left (Reset left written))) at is = refl
serving_dials (Other (Left Shut)) at is = refl
serving_dials (Other Closed) at is = refl
serving_dials (Other Failed) at is = refl
serving_dials action at is = absurd is

-- what it does can be done there, and the client has lost it still
pub can_unbroken : (touch : Touch) (p q : Between) → is_dialled touch ≡ false → p.near ≡ Has_lost → Can TheServer touch p q
    → Can TheServer touch (unbroken p) (unbroken q) × (q.near ≡ Has_lost)
can_unbroken None_of_it p q dials lost can = (ap unbroken can, ap (λ (m : Between). m.near) can ∙ lost)
can_unbroken (Says octets) p q dials lost can = (ap unbroken can, ap (λ (m : Between). m.near) can ∙ lost)
can_unbroken (Reads octets) p q dials lost can = ((can.0, ap unbroken can.1), ap (λ (m : Between). m.near) can.1 ∙ lost)
can_unbroken Parts p q dials lost can = (ap unbroken can, ap (λ (m : Between). m.near) can ∙ lost)
can_unbroken (Listens None) p q dials lost can = (ap unbroken can, ap (λ (m : Between). m.near) can ∙ lost)
can_unbroken (Listens (Some port)) p q dials lost can = ((can.0, ap unbroken can.1), ap (λ (m : Between). m.near) can.1 ∙ lost)
can_unbroken (Dials endpoint) p q dials lost can = absurd (true≢false dials)
can_unbroken (Accepts host) p q dials lost can = ((can.0, ap unbroken can.1), ap (λ (m : Between). m.near) can.1 ∙ lost)
can_unbroken (IsDenied endpoint) p q dials lost can = (ap unbroken can, ap (λ (m : Between). m.near) can ∙ lost)
can_unbroken IsMissed p q dials lost can = (ap unbroken can, ap (λ (m : Between). m.near) can ∙ lost)
can_unbroken (Writes octets) p q dials lost can = ((can.0, ap unbroken can.1), ap (λ (m : Between). m.near) can.1 ∙ lost)
can_unbroken (Takes octets) p q dials lost can = ((can.0, can.1, ap unbroken can.2), ap (λ (m : Between). m.near) can.2 ∙ lost)
can_unbroken Ends p q dials lost can = ((can.0, ap unbroken can.1), ap (λ (m : Between). m.near) can.1 ∙ lost)
can_unbroken Resets p q dials lost can = ((can.0, ap unbroken can.1), ap (λ (m : Between). m.near) can.1 ∙ lost)
can_unbroken ToldEnd p q dials lost can = absurd (true≢false (sym (ap is_ended (sym lost ∙ can.0))))
can_unbroken ToldBreak p q dials lost can = ((can.0, ap unbroken can.1), ap (λ (m : Between). m.near) can.1 ∙ lost)

-- so can an action of the server, as a world sees it
pub sees_unbroken : (action : Action server_side) (server : Stand server_side) → IsLone action server.owner → (p q : Between) → p.near ≡ Has_lost
    → Sees action server p q → Sees action server (unbroken p) (unbroken q) × (q.near ≡ Has_lost)
sees_unbroken (Other (Left (Reset left written))) server is p q lost can = ((can.0, ap unbroken can.1), ap (λ (m : Between). m.near) can.1 ∙ lost)
sees_unbroken (Other Break) server is p q lost can = absurd is
sees_unbroken action server is p q lost can = can_unbroken (touch_in action) p q (serving_dials action server.owner is) lost can
