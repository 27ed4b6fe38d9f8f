-- Turns in order: whoever waits and is ready is passed over by nobody twice (own choice).
use Rattle.std.specs.Prelude.{◌≡◌, ◌≢◌, ℕ, ◌<◌, Bool, true, List, [], ◌∷◌, map, length, AllPairs, Contains, IsPermutation}
use Rattle.std.specs.List.{range_with_len}
use Rattle.tool_scheduler.specs.Order.{Takes, is_ready}

-- a turn: the places that are ready, and the one of them that takes it
pub record Turn : Type 0 where
  pub ready : List Bool
  pub place : ℕ

-- turns in order lead from one order of the places to another
abbrev pub Reorders : List ℕ → List Turn → List ℕ → Type 0
Reorders places [] last = last ≡ places
Reorders places (turn ∷ turns) last = (rest : List ℕ) × Takes turn.ready places turn.place rest × Reorders rest turns last

-- a place is passed over in each of them: it is ready, and another takes the turn
abbrev pub IsPassedOver : ℕ → List Turn → Type 0
IsPassedOver place [] = Unit {0}
IsPassedOver place (turn ∷ turns) = (is_ready turn.ready place ≡ true) × (turn.place ≢ place) × IsPassedOver place turns

-- the places that take them
abbrev pub takers : List Turn → List ℕ
takers turns = map (λ turn. turn.place) turns

-- no place stands there twice
abbrev pub AreDifferent : List ℕ → Type 0
AreDifferent places = AllPairs (λ one other. one ≢ other) places

-- ---- the laws

-- Nobody is passed over twice: of turns in which one place is passed over, each is another's, so they are fewer than the places
abbrev pub NobodyIsPassedTwice : Type 0
NobodyIsPassedTwice =
    (places last : List ℕ) (turns : List Turn) (place : ℕ) → AreDifferent places → Contains places place
    → Reorders places turns last → IsPassedOver place turns → AreDifferent (takers turns) × (length turns < length places)

-- turns leave the same places, in some order; so those that are different stay so
abbrev pub PlacesStay : Type 0
PlacesStay = (places last : List ℕ) (turns : List Turn) → Reorders places turns last → IsPermutation places last × (AreDifferent places → AreDifferent last)

-- So it is from the start: whatever turns came before, of those in which a place is passed over each is another's, and they are fewer than the places
abbrev pub FairFromTheStart : Type 0
FairFromTheStart =
    (count : ℕ) (earlier later : List Turn) (now last : List ℕ) (place : ℕ) → place < count
    → Reorders (range_with_len 0 count) earlier now → Reorders now later last → IsPassedOver place later → AreDifferent (takers later) × (length later < count)
