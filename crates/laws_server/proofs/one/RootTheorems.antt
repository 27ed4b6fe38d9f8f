-- Calls of a server and of the same at a root, one after another: they give the same, and leave what is outside of it.
use Rattle.std.proofs.Common.{◌≡◌, ℕ, List, [], ◌∷◌, refl, sym, ap, ◌∙◌, take, true≢false}
use Rattle.ftp_path.specs.Path.{Names}
use Rattle.ftp_server_model.specs.Calls.{clocked, gives_control, listening, listen_refused, data_opened, data_refused, gives_data, data_end, data_fault, data_closed, receives, start, to_give, clock_step, control_step, listening_step, no_port_step, opened_step, refused_step, end_step, break_step, close_step, given_step}
use Rattle.ftp_server_model.specs.Machine.{Reading, hears, later}
use Rattle.ftp_server_model.specs.Play.{Cue, Clock, Hear, ControlOut, ControlEnd, Listening, DataOpened, DataHear, DataOut, ListenRefused, DataRefused, DataEnd, DataFault, DataClosed, AsksWants, Gift, Nothing, Took, Octets, CallIsAt, IsApart, IsAt, LogsInAt, RootsAreApart, at_root, call, left_by, most_given, played}
use Rattle.ftp_server_model.specs.View.{View}
use Rattle.laws_server.proofs.one.HeardLemmas.{heard_at, received_at}
use Rattle.laws_server.proofs.one.TurnLemmas.{IsHeld}
use Rattle.laws_server.proofs.one.PartLemmas.{StepAt, ViewAt, acts_at, break_at, clock_at, close_at, control_at, control_end_at, end_at, given_at, listening_at, no_port_at, opened_at, refused_step_at, stays}

-- a call and the same at the root
record CallAt (root : Names) (v : View) (one its : Gift × View) : Type 0 where
  pub gift : its.0 ≡ one.0
  pub is : ViewAt root v one.1 its.1
  pub known : IsAt root one.1

acted : (root : Names) (v one its : View) (gift : Gift) → StepAt root v one its → IsAt root v → IsAt root (later one) → CallAt root v (gift, later one) (gift, later its)
acted root v one its gift step before known = record { gift = refl; is = acts_at root v one its step before known; known = known }

call_at : (read : Reading) (root : Names) (cue : Cue) (v : View) → IsAt root v → IsHeld root v.session → CallIsAt read root cue v → CallAt root v (call read cue v) (call read cue (at_root root v))
unfolding clocked gives_control listening listen_refused data_opened data_refused gives_data data_end data_fault data_closed
call_at read root (Clock moment) v before held known = acted root v (clock_step moment v) (clock_step moment (at_root root v)) Nothing (clock_at moment root v held) before known
call_at read root (Hear octets) v before held known =
    let row = heard_at read octets root v before held known in
    let goes = λ (n : ℕ). hears read (at_root root v) (take n octets) in
    record { gift = ap Took row.count; is = record { same = ap goes row.count ∙ row.is.same; apart = row.is.apart; held = row.is.held }; known = row.known }
call_at read root (ControlOut room) v before held known =
    let count : ℕ = most_given room v.owed in
    acted root v (control_step count v) (control_step count (at_root root v)) (Octets (take room v.owed)) (control_at count root v held) before known
call_at read root ControlEnd v before held known = record { gift = refl; is = control_end_at root v; known = known }
call_at read root (Listening port) v before held known = acted root v (listening_step port v) (listening_step port (at_root root v)) Nothing (listening_at port root v held) before known
call_at read root ListenRefused v before held known = acted root v (no_port_step v) (no_port_step (at_root root v)) Nothing (no_port_at root v held) before known
call_at read root (DataOpened host) v before held known = acted root v (opened_step host v) (opened_step host (at_root root v)) Nothing (opened_at host root v held) before known
call_at read root DataRefused v before held known = acted root v (refused_step v) (refused_step (at_root root v)) Nothing (refused_step_at root v held) before known
call_at read root (DataHear octets) v before held known =
    let row = received_at octets root v before held known in
    let goes = λ (n : ℕ). receives (at_root root v) (take n octets) in
    record { gift = ap Took row.count; is = record { same = ap goes row.count ∙ row.is.same; apart = row.is.apart; held = row.is.held }; known = row.known }
call_at read root (DataOut room) v before held known =
    let count : ℕ = most_given room (to_give v) in
    acted root v (given_step count v) (given_step count (at_root root v)) (Octets (take room (to_give v))) (given_at count root v held) before known
call_at read root DataEnd v before held known = acted root v (end_step v) (end_step (at_root root v)) Nothing (end_at root v held) before known
call_at read root DataFault v before held known = acted root v (break_step v) (break_step (at_root root v)) Nothing (break_at root v held) before known
call_at read root DataClosed v before held known = acted root v (close_step v) (close_step (at_root root v)) Nothing (close_at root v held) before known
call_at read root AsksWants v before held known = record { gift = refl; is = stays root v held; known = known }

-- all calls
all_at : (read : Reading) (root : Names) (cues : List Cue) (v : View) → IsAt root v → IsHeld root v.session → LogsInAt read root cues v → IsApart read root cues v
unfolding played left_by
all_at read root [] v before held known = record { outside = λ path out. refl; gives = refl }
all_at read root (cue ∷ cues) v before held known =
    let one = call read cue v in
    let its = call read cue (at_root root v) in
    let first = call_at read root cue v before held known.0 in
    let rest = all_at read root cues one.1 first.known first.is.held known.1 in
    record {
      outside = λ path out. rest.outside path out ∙ first.is.apart path out;
      gives = ap (λ (gifts : List Gift). one.0 ∷ gifts) rest.gives ∙ ap (λ (gift : Gift). gift ∷ played read cues (at_root root one.1)) (sym first.gift)
          ∙ ap (λ (w : View). its.0 ∷ played read cues w) (sym first.is.same);
    }

pub roots_are_apart : RootsAreApart
roots_are_apart read table accounts here peer root cues reading known =
    all_at read root cues (start table accounts here peer) (λ is. absurd (true≢false (sym is))) (λ is. absurd (true≢false (sym is))) known
