-- Actions of a drive whose tree may be exchanged are those of a drive of its own, where they bring no tree.
use Rattle.std.proofs.Common.{◌≡◌, ◌⊎◌, ◌+◌, ℕ, List, [], ◌∷◌, ◌++◌, inl, inr, refl, ap, ◌∙◌, map}
use Rattle.std.specs.Prelude.{⊤}
use Rattle.ftp_ports.specs.Asking.{Asked}
use Rattle.ftp_ports.specs.Actions.{Action, Done, Ended as ToldEnded, Heard, Led, Other, Read, Said, Stand, step_by, steps_in}
use Rattle.ftp_ports.specs.Driving.{Breaks}
use Rattle.ftp_ports.specs.Machine.{Call, Called, Gives, Held, step_of}
use Rattle.ftp_ports.specs.Machine.{Aside, Break, Closed, End, Failed, Gave, Got, Left, LetGo, Listening, NoPort, Opened, Received, Refused, Waited, Wrote}
use Rattle.ftp_server_driver.specs.alone.Side.{Timed, server_machine, server_side}
use Rattle.ftp_server_driver.specs.shared.Lending.{Asks, Exchanged, Own, lent_machine, lent_side, tree_by, trees_in}

-- a stand of such a drive, as one of a drive of its own
abbrev pub alone_at : Stand lent_side → Stand server_side
alone_at stand = record { owner = stand.owner; left = stand.left; unheard = stand.unheard; written = stand.written }

-- two lists that are none together
none_of : {X : Type 0} (xs ys : List X) → xs ++ ys ≡ [] → (xs ≡ []) × (ys ≡ [])
none_of [] ys none = (refl, none)
none_of (x ∷ xs) ys none = absurd (cc)

-- each call, as one of a drive of its own
down_call : Call Own → Call ⊤
down_call (Aside own) = Aside tt
down_call (Listening port) = Listening port
down_call (Opened host asked at_first so_far rest) = Opened host asked at_first so_far rest
down_call (Refused asked) = Refused asked
down_call (Received octets count) = Received octets count
down_call (Gave count octets rest) = Gave count octets rest
down_call NoPort = NoPort
down_call End = End
down_call Break = Break
down_call Closed = Closed
down_call (Waited lost) = Waited lost
down_call (Got octets) = Got octets
down_call (Wrote octets) = Wrote octets
down_call (LetGo octets) = LetGo octets
down_call Failed = Failed
down_call (Left asked) = Left asked

-- each call but an exchange does the same
down_called : (call : Call Own) (old new : Held Timed) → tree_by (Other call) ≡ [] → Called lent_machine call old new
    → Called server_machine (down_call call) old new
unfolding down_call
down_called (Aside Asks) old new none called = called
down_called (Aside (Exchanged exchange)) old new none called = absurd (cc)
down_called (Listening port) old new none called = called
down_called (Opened host asked at_first so_far rest) old new none called = called
down_called (Refused asked) old new none called = called
down_called (Received octets count) old new none called = called
down_called (Gave count octets rest) old new none called = called
down_called NoPort old new none called = called
down_called End old new none called = called
down_called Break old new none called = called
down_called Closed old new none called = called
down_called (Waited lost) old new none called = called
down_called (Got octets) old new none called = called
down_called (Wrote octets) old new none called = called
down_called (LetGo octets) old new none called = called
down_called Failed old new none called = called
down_called (Left asked) old new none called = called

-- and each action
pub down_action : Action lent_side → Action server_side
down_action (Heard octets) = Heard octets
down_action (Said octets) = Said octets
down_action (Read octets) = Read octets
down_action ToldEnded = ToldEnded
down_action (Other call) = Other (down_call call)

-- a drive gets on by each call as before
down_step : (call : Call Own) → step_of server_machine (down_call call) ≡ step_of lent_machine call
unfolding down_call
down_step (Aside own) = refl
down_step (Listening port) = refl
down_step (Opened host asked at_first so_far rest) = refl
down_step (Refused asked) = refl
down_step (Received octets count) = refl
down_step (Gave count octets rest) = refl
down_step NoPort = refl
down_step End = refl
down_step Break = refl
down_step Closed = refl
down_step (Waited lost) = refl
down_step (Got octets) = refl
down_step (Wrote octets) = refl
down_step (LetGo octets) = refl
down_step Failed = refl
down_step (Left asked) = refl

-- and by each action
down_steps : (action : Action lent_side) → step_by (down_action action) ≡ step_by action
unfolding down_action
down_steps (Heard octets) = refl
down_steps (Said octets) = refl
down_steps (Read octets) = refl
down_steps ToldEnded = refl
down_steps (Other call) = down_step call

-- it gives the same octets
down_gives : (octets : List ℕ) (old new : Held Timed) → Gives lent_machine octets old new → Gives server_machine octets old new
down_gives octets old new gives = record { count = gives.count; owed = gives.owed; gave = gives.gave; channel = gives.channel }

-- each action that brings no tree does the same
down_done : (action : Action lent_side) (old new : Stand lent_side) → tree_by action ≡ [] → Done action old new
    → Done (down_action action) (alone_at old) (alone_at new)
unfolding down_action
down_done (Heard octets) old new none done = record { hears = done.hears; next = done.next; left = done.left; written = done.written }
down_done (Said octets) old new none done =
    record { gives = down_gives octets old.owner new.owner done.gives; wrote = done.wrote; left = done.left; unheard = done.unheard }
down_done (Read octets) old new none done = record {
  due = done.due;
  owner = done.owner;
  heard = done.heard;
  read = done.read;
  ended = done.ended;
  unheard = done.unheard;
  written = done.written;
}
down_done ToldEnded old new none done = record {
  due = done.due;
  heard = done.heard;
  read = done.read;
  last = done.last;
  ended = done.ended;
  cut = done.cut;
  unheard = done.unheard;
  written = done.written;
}
down_done (Other call) old new none done = (down_called call old.owner new.owner none done.0, ap alone_at done.1)

-- its data connection is left
pub down_left : (asked : Asked) (old new : Stand lent_side) → Done {side = lent_side} (Other (Left asked)) old new
    → Done {side = server_side} (Other (Left asked)) (alone_at old) (alone_at new)
down_left asked old new done = (done.0, ap alone_at done.1)

-- actions, as those of a drive of its own
pub record Lowered (actions : List (Action lent_side)) (old new : Stand lent_side) : Type 0 where
  pub led : Led (map down_action actions) (alone_at old) (alone_at new)
  pub steps : steps_in (map down_action actions) ≡ steps_in actions

-- so they are, where they bring no tree
pub lowered : (actions : List (Action lent_side)) (old new : Stand lent_side) → trees_in actions ≡ [] → Led actions old new → Lowered actions old new
lowered [] old new none led = record { led = ap alone_at led; steps = refl }
lowered (action ∷ before) old new none led =
    let nones = none_of (tree_by action) (trees_in before) none in
    let first = lowered before old led.0 nones.1 led.1 in
    record {
      led = (alone_at led.0, first.led, down_done action led.0 new nones.0 led.2);
      steps = ap (λ n. n + steps_in (map down_action before)) (down_steps action) ∙ ap (λ n. step_by action + n) first.steps;
    }

-- so it breaks off
pub down_breaks : (octets : List ℕ) (old new : Stand lent_side) → Breaks octets old new → Breaks octets (alone_at old) (alone_at new)
down_breaks octets old new breaks = record {
  given = breaks.given;
  gives = by breaks.gives;
  lets = breaks.lets;
  left = breaks.left;
  ended = breaks.ended;
  unheard = breaks.unheard;
  wrote = breaks.wrote;
}
  where
    by : ((octets ≡ []) × (breaks.given ≡ old.owner)) ⊎ Gives lent_machine octets old.owner breaks.given
        → ((octets ≡ []) × (breaks.given ≡ old.owner)) ⊎ Gives server_machine octets old.owner breaks.given
    by (inl none) = inl none
    by (inr gives) = inr (down_gives octets old.owner breaks.given gives)
