-- What follows of rounds, of whatever actions (own choice): each address has a turn, nobody has two turns in a round, and nobody that is ready waits for long.
use Rattle.std.specs.Prelude.{◌≡◌, ◌≢◌, ◌⊎◌, ℕ, ◌+◌, ◌<◌, ◌≤◌, Bool, true, List, [], ◌∷◌, ◌++◌}
use Rattle.tool_scheduler.specs.Order.{is_ready}
use Rattle.tool_scheduler.specs.Rounds.{RoundAction, Began, Gave, Ended, RoundStanding, Steps, host_in, start}

-- how many rounds began
abbrev pub begun : List RoundAction → ℕ
begun [] = 0
begun (Began ready hosts ∷ actions) = 1 + begun actions
begun (Gave place ∷ actions) = begun actions
begun (Ended place ∷ actions) = begun actions

-- a place had a turn in order
abbrev pub HasTurn : ℕ → List RoundAction → Type 0
HasTurn place [] = ⊥
HasTurn place (Began ready hosts ∷ actions) = HasTurn place actions
HasTurn place (Gave other ∷ actions) = (other ≡ place) ⊎ HasTurn place actions
HasTurn place (Ended other ∷ actions) = HasTurn place actions

-- a place waits: it is ready in each round that begins, and has no turn in order
abbrev pub WaitsForTurn : ℕ → List RoundAction → Type 0
WaitsForTurn place [] = Unit {0}
WaitsForTurn place (Began ready hosts ∷ actions) = (is_ready ready place ≡ true) × WaitsForTurn place actions
WaitsForTurn place (Gave other ∷ actions) = (other ≢ place) × WaitsForTurn place actions
WaitsForTurn place (Ended other ∷ actions) = WaitsForTurn place actions

-- ---- the laws

-- in a round that is over each address of which a session was ready has had a turn
abbrev pub EachAddressHasATurn : Type 0
EachAddressHasATurn =
    (count : ℕ) (earlier later : List RoundAction) (ready then_ready : List Bool) (hosts then_hosts : List ℕ) (last : RoundStanding) (place : ℕ) → place < count
    → Steps (start count) (Began then_ready then_hosts ∷ (later ++ Began ready hosts ∷ earlier)) last → begun later ≡ 0 → is_ready ready place ≡ true
    → (other : ℕ) × HasTurn other later × (host_in hosts other ≡ host_in hosts place)

-- between two turns of one place a round began
abbrev pub NobodyHasTwoTurns : Type 0
NobodyHasTwoTurns =
    (count : ℕ) (earlier later : List RoundAction) (last : RoundStanding) (place : ℕ)
    → Steps (start count) (Gave place ∷ (later ++ Gave place ∷ earlier)) last → 0 < begun later

-- before whoever is ready in each round that begins has its turn, at most as many rounds begin as there are places
abbrev pub NobodyWaitsForLong : Type 0
NobodyWaitsForLong =
    (count : ℕ) (earlier later : List RoundAction) (now last : RoundStanding) (place : ℕ) → place < count
    → Steps (start count) earlier now → Steps now later last → WaitsForTurn place later → begun later ≤ count
