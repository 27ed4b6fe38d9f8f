-- Actions of a drive of its own are actions of one whose tree may be exchanged, and bring no tree.
use Rattle.std.proofs.Common.{◌≡◌, ◌⊎◌, ◌+◌, ℕ, List, [], ◌∷◌, ◌++◌, inl, inr, refl, ap, ◌∙◌, map}
use Rattle.std.specs.Prelude.{⊤}
use Rattle.ftp_ports.specs.Asking.{Asked}
use Rattle.ftp_ports.specs.Actions.{Action, Done, Ended as ToldEnded, Heard, Led, Other, Read, Said, Stand, step_by, steps_in}
use Rattle.ftp_ports.specs.Driving.{Breaks}
use Rattle.ftp_ports.specs.Machine.{Call, Called, Gives, Held}
use Rattle.ftp_ports.specs.Machine.{Aside, Break, Closed, End, Failed, Gave, Got, Left, LetGo, Listening, NoPort, Opened, Received, Refused, Waited, Wrote}
use Rattle.ftp_server_driver.specs.alone.Side.{Timed, server_machine, server_side}
use Rattle.ftp_server_driver.specs.shared.Lending.{Asks, Own, lent_at, lent_machine, lent_side, tree_by, trees_in}

-- each call, as one of such a drive
up_call : Call ⊤ → Call Own
up_call (Aside own) = Aside Asks
up_call (Listening port) = Listening port
up_call (Opened host asked at_first so_far rest) = Opened host asked at_first so_far rest
up_call (Refused asked) = Refused asked
up_call (Received octets count) = Received octets count
up_call (Gave count octets rest) = Gave count octets rest
up_call NoPort = NoPort
up_call End = End
up_call Break = Break
up_call Closed = Closed
up_call (Waited lost) = Waited lost
up_call (Got octets) = Got octets
up_call (Wrote octets) = Wrote octets
up_call (LetGo octets) = LetGo octets
up_call Failed = Failed
up_call (Left asked) = Left asked

-- each call does the same
up_called : (call : Call ⊤) (old new : Held Timed) → Called server_machine call old new → Called lent_machine (up_call call) old new
unfolding up_call
up_called (Aside own) old new called = called
up_called (Listening port) old new called = called
up_called (Opened host asked at_first so_far rest) old new called = called
up_called (Refused asked) old new called = called
up_called (Received octets count) old new called = called
up_called (Gave count octets rest) old new called = called
up_called NoPort old new called = called
up_called End old new called = called
up_called Break old new called = called
up_called Closed old new called = called
up_called (Waited lost) old new called = called
up_called (Got octets) old new called = called
up_called (Wrote octets) old new called = called
up_called (LetGo octets) old new called = called
up_called Failed old new called = called
up_called (Left asked) old new called = called

-- and each action
pub up_action : Action server_side → Action lent_side
up_action (Heard octets) = Heard octets
up_action (Said octets) = Said octets
up_action (Read octets) = Read octets
up_action ToldEnded = ToldEnded
up_action (Other call) = Other (up_call call)

-- it brings no tree, and a drive gets on by it as before
record Alike (action : Action server_side) : Type 0 where
  none : tree_by (up_action action) ≡ []
  step : step_by (up_action action) ≡ step_by action

-- so it is of each call
alike_call : (call : Call ⊤) → Alike (Other call)
unfolding up_call up_action
alike_call (Aside own) = record { none = refl; step = refl }
alike_call (Listening port) = record { none = refl; step = refl }
alike_call (Opened host asked at_first so_far rest) = record { none = refl; step = refl }
alike_call (Refused asked) = record { none = refl; step = refl }
alike_call (Received octets count) = record { none = refl; step = refl }
alike_call (Gave count octets rest) = record { none = refl; step = refl }
alike_call NoPort = record { none = refl; step = refl }
alike_call End = record { none = refl; step = refl }
alike_call Break = record { none = refl; step = refl }
alike_call Closed = record { none = refl; step = refl }
alike_call (Waited lost) = record { none = refl; step = refl }
alike_call (Got octets) = record { none = refl; step = refl }
alike_call (Wrote octets) = record { none = refl; step = refl }
alike_call (LetGo octets) = record { none = refl; step = refl }
alike_call Failed = record { none = refl; step = refl }
alike_call (Left asked) = record { none = refl; step = refl }

-- and of each action
alike : (action : Action server_side) → Alike action
unfolding up_action
alike (Heard octets) = record { none = refl; step = refl }
alike (Said octets) = record { none = refl; step = refl }
alike (Read octets) = record { none = refl; step = refl }
alike ToldEnded = record { none = refl; step = refl }
alike (Other call) = alike_call call

-- it gives the same octets
up_gives : (octets : List ℕ) (old new : Held Timed) → Gives server_machine octets old new → Gives lent_machine octets old new
up_gives octets old new gives = record { count = gives.count; owed = gives.owed; gave = gives.gave; channel = gives.channel }

-- each action does the same
pub up_done : (action : Action server_side) (old new : Stand server_side) → Done action old new → Done (up_action action) (lent_at old) (lent_at new)
unfolding up_action
up_done (Heard octets) old new done = record { hears = done.hears; next = done.next; left = done.left; written = done.written }
up_done (Said octets) old new done =
    record { gives = up_gives octets old.owner new.owner done.gives; wrote = done.wrote; left = done.left; unheard = done.unheard }
up_done (Read octets) old new done = record {
  due = done.due;
  owner = done.owner;
  heard = done.heard;
  read = done.read;
  ended = done.ended;
  unheard = done.unheard;
  written = done.written;
}
up_done ToldEnded old new done = record {
  due = done.due;
  heard = done.heard;
  read = done.read;
  last = done.last;
  ended = done.ended;
  cut = done.cut;
  unheard = done.unheard;
  written = done.written;
}
up_done (Other call) old new done = (up_called call old.owner new.owner done.0, ap lent_at done.1)

-- its data connection is left
pub up_left : (asked : Asked) (old new : Stand server_side) → Done {side = server_side} (Other (Left asked)) old new
    → Done {side = lent_side} (Other (Left asked)) (lent_at old) (lent_at new)
up_left asked old new done = (done.0, ap lent_at done.1)

-- actions, as those of such a drive
pub record Raised (actions : List (Action server_side)) (old new : Stand server_side) : Type 0 where
  pub led : Led (map up_action actions) (lent_at old) (lent_at new)
  pub none : trees_in (map up_action actions) ≡ []
  pub steps : steps_in (map up_action actions) ≡ steps_in actions

-- so they are
pub raised : (actions : List (Action server_side)) (old new : Stand server_side) → Led actions old new → Raised actions old new
raised [] old new led = record { led = ap lent_at led; none = refl; steps = refl }
raised (action ∷ before) old new led =
    let first = raised before old led.0 led.1 in
    let one = alike action in
    record {
      led = (lent_at led.0, first.led, up_done action led.0 new led.2);
      none = ap (λ (l : List _). l ++ trees_in (map up_action before)) one.none ∙ first.none;
      steps = ap (λ n. n + steps_in (map up_action before)) one.step ∙ ap (λ n. step_by action + n) first.steps;
    }

-- so it breaks off
pub up_breaks : (octets : List ℕ) (old new : Stand server_side) → Breaks octets old new → Breaks octets (lent_at old) (lent_at new)
up_breaks octets old new breaks = record {
  given = breaks.given;
  gives = by breaks.gives;
  lets = breaks.lets;
  left = breaks.left;
  ended = breaks.ended;
  unheard = breaks.unheard;
  wrote = breaks.wrote;
}
  where
    by : ((octets ≡ []) × (breaks.given ≡ old.owner)) ⊎ Gives server_machine octets old.owner breaks.given
        → ((octets ≡ []) × (breaks.given ≡ old.owner)) ⊎ Gives lent_machine octets old.owner breaks.given
    by (inl none) = inl none
    by (inr gives) = inr (up_gives octets old.owner breaks.given gives)
