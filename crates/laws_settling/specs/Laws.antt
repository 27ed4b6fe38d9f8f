-- What is proved of settling, as laws.
use Rattle.std.specs.Prelude.{◌≡◌, ◌⊎◌, ℕ, ◌<◌, ◌≤◌, Bool, true}
use Rattle.ftp_server_model.specs.Machine.{Reading}
use Rattle.laws_world.specs.Claims.{Always, IsSettling}
use Rattle.laws_world.specs.Events.{Event, Happens}
use Rattle.laws_world.specs.Serving.{after_event}
use Rattle.laws_world.specs.Settling.{Left, Falls, left_in}
use Rattle.laws_world.specs.World.{World}
use Rattle.laws_settling.specs.Steady.{AreApart, AsksNothing, IsSteadyWorld}
use Rattle.laws_settling.specs.Turns.{Ends, IsTurn, TurnHappened}

-- ---- the numbers

-- one number is less, or the same and the rest holds
abbrev pub Then : (new old : ℕ) → Type 0 → Type 0
Then new old Rest = (new < old) ⊎ ((new ≡ old) × Rest)

-- the first of four numbers that differs is less, or none differs and something holds of the fifth
abbrev pub IsLessInOrder : (new old : Left) → Type 0 → Type 0
IsLessInOrder new old Last =
    Then new.at_client old.at_client (Then new.to_server old.to_server (Then new.at_server old.at_server (Then new.to_client old.to_client Last)))

-- the first number that differs is less, or none differs but the last, which is not more
abbrev pub AtMost : (new old : Left) → Type 0
AtMost new old = IsLessInOrder new old (new.unqueued ≤ old.unqueued)

-- ---- the laws

-- what is served behind an event makes no more to do
abbrev pub ServingIsLow : Type 0
ServingIsLow = (w : World) → AreApart w → AtMost (left_in (after_event w)) (left_in w)

-- each delivery, opening and end lowers the first number that it changes, where both ends are apart and nothing is asked of the client
abbrev pub EventsFall : Type 0
EventsFall =
    (read : Reading) (event : Event) (w new : World) → AreApart w → AsksNothing w → IsSettling event → Happens read event w true new
    → Falls (left_in new) (left_in w)

-- every event, of whatever kind, leaves a steady world steady
abbrev pub EventsKeepSteady : Type 0
EventsKeepSteady = (read : Reading) (event : Event) (possible : Bool) (w new : World) → IsSteadyWorld w → Happens read event w possible new → IsSteadyWorld new

-- so every world that a fair beginning leads to is steady
abbrev pub StaysSteady : Type 0
StaysSteady = Always (λ read b events begun w. IsSteadyWorld w)

-- each run of deliveries, openings and ends from a steady world ends
abbrev pub SteadyEnds : Type 0
SteadyEnds = (read : Reading) (w : World) → IsSteadyWorld w → Ends read w

-- there is a number that each turn from a steady world lowers, for a loop to count down: a function of the world
abbrev pub HasHeight : Type 0
HasHeight =
    (read : Reading)
    → (height : World → ℕ) × ((event : Event) (w new : World) → IsSteadyWorld w → IsTurn event w → Happens read event w true new → height new < height w)

-- a step of a loop leaves its world steady, and lowers a number
pub record StepsDown (height : World → ℕ) (old new : World) : Type 0 where
  pub steady : ∥ IsSteadyWorld new ∥₁
  pub less : height new < height old

-- so does each turn, as a loop knows of it: that its world is steady is no more than a fact, which a ghost field may hold
abbrev pub LoopsEnd : Type 0
LoopsEnd = (height : World → ℕ) × ((old new : World) → ∥ IsSteadyWorld old ∥₁ → TurnHappened old new → StepsDown height old new)
