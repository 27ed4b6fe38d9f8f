-- Rounds of turns (own choice): in each one session of each address that is ready has a turn, and then, while the round is short, each other; who is next is
-- always the one whose last turn is the oldest.
use Rattle.std.specs.Prelude.{◌≡◌, ◌⊎◌, ℕ, ◌+◌, eqb, Bool, true, false, not, ◌&&◌, Option, Some, None, unwrap_or, List, [], ◌∷◌}
use Rattle.std.specs.List.{range_with_len, slice_get}
use Rattle.ftp_ports.specs.Asking.{Adds}
use Rattle.tool_scheduler.specs.Order.{Takes, first_ready, is_ready}
use Rattle.tool_scheduler.specs.declared.slot.Turn.{Turn}
use Rattle.tool_scheduler.specs.declared.slot.Turn.TheVariants.{Next, Last}
use Rattle.tool_scheduler.specs.declared.waiting.WaitQueue.{WaitQueue}

-- what whoever slots clients is told of rounds
pub data RoundAction : Type 0 where
  -- a round begins, in which these places are ready; the clients there count as these
  Began : (ready : List Bool) → (hosts : List ℕ) → RoundAction
  -- a turn of a place, in order
  Gave : (place : ℕ) → RoundAction
  -- a turn beside the order, of a place whose session is ended for another client
  Ended : (place : ℕ) → RoundAction

-- what is told by a turn
abbrev pub action_of : Turn → RoundAction
action_of (Next place) = Gave place
action_of (Last place) = Ended place

-- whose turn it is
abbrev pub place_of : Turn → ℕ
place_of (Next place) = place
place_of (Last place) = place

-- ---- how a round stands

-- the places, the one whose last turn is the oldest first; those that are ready and of whose address none had a turn in this round; those that are ready and
-- had none themselves; as whom the client of each counts; whether the turns are those of the others by now
pub record RoundStanding : Type 0 where
  pub order : List ℕ
  pub first : List Bool
  pub ready : List Bool
  pub hosts : List ℕ
  pub others : Bool

-- before the first round
abbrev pub start : (count : ℕ) → RoundStanding
start count = record { order = range_with_len 0 count; first = []; ready = []; hosts = []; others = true }

-- so many wait, in this order
abbrev pub round_standing : WaitQueue → (order : List ℕ) → (others : Bool) → RoundStanding
round_standing waiting order others =
    record { order = order; first = waiting.first; ready = waiting.ready; hosts = waiting.hosts; others = others }

-- as whom the client in a place counts
abbrev pub host_in : List ℕ → ℕ → ℕ
host_in hosts place = unwrap_or (slice_get hosts place) 0

-- two places count as one
abbrev pub is_same : List ℕ → ℕ → ℕ → Bool
is_same hosts place other = eqb (host_in hosts other) (host_in hosts place)

-- after a turn of a place none of its address is among these
abbrev pub LeavesAddress : List ℕ → ℕ → (old new : List Bool) → Type 0
LeavesAddress hosts place old new = (other : ℕ) → is_ready new other ≡ is_ready old other && not (is_same hosts place other)

-- after a turn of a place that place is not
abbrev pub LeavesPlace : ℕ → (old new : List Bool) → Type 0
LeavesPlace place old new = (other : ℕ) → is_ready new other ≡ is_ready old other && not (eqb other place)

-- one of each address that is ready had a turn
abbrev pub IsRoundDone : RoundStanding → Type 0
IsRoundDone old = (old.others ≡ true) ⊎ (first_ready old.first old.order ≡ None)

-- the next turn is that of a place: while one of an address that had none is ready, of the first of these in the order; then of the first of those that are
-- ready and had none themselves
abbrev pub IsNext : RoundStanding → ℕ → (rest : List ℕ) → (others : Bool) → Type 0
IsNext old place rest others =
    ((old.others ≡ false) × (others ≡ false) × Takes old.first old.order place rest)
    ⊎ (IsRoundDone old × (others ≡ true) × Takes old.ready old.order place rest)

-- a turn in order
pub record TakesTurnInOrder (old : RoundStanding) (place : ℕ) (new : RoundStanding) : Type 0 where
  pub next : IsNext old place new.order new.others
  pub first : LeavesAddress old.hosts place old.first new.first
  pub ready : LeavesPlace place old.ready new.ready
  pub hosts : new.hosts ≡ old.hosts

-- what is told leads from one standing to another: a round begins only once one of each address had its turn in the last one
abbrev pub Step : RoundStanding → RoundAction → RoundStanding → Type 0
Step old (Began ready hosts) new =
    IsRoundDone old × (new ≡ record { order = old.order; first = ready; ready = ready; hosts = hosts; others = false })
Step old (Gave place) new = TakesTurnInOrder old place new
Step old (Ended place) new = new ≡ old

-- so do actions, the last one first
abbrev pub Steps : RoundStanding → List RoundAction → RoundStanding → Type 0
Steps old [] new = new ≡ old
Steps old (action ∷ earlier) new = (between : RoundStanding) × Steps old earlier between × Step between action new

-- ---- what calls do

-- what was told meanwhile leads from one standing to another
abbrev pub ComesMeanwhile : (old new : Option (List RoundAction)) → (from to : RoundStanding) → Type 0
ComesMeanwhile old new from to = (actions : List RoundAction) × Adds old new actions × Steps from actions to

-- what was told meanwhile leads from a standing to one with this order, in which one of each address had its turn
abbrev pub GoesOnTo : (old new : Option (List RoundAction)) → RoundStanding → (order : List ℕ) → Type 0
GoesOnTo old new from order =
    (actions : List RoundAction) × (to : RoundStanding) × Adds old new actions × Steps from actions to × IsRoundDone to × (to.order ≡ order)

-- what is told of rounds from the first on
abbrev pub AreRounds : (count : ℕ) → (old new : Option (List RoundAction)) → Type 0
AreRounds count old new = (actions : List RoundAction) × (last : RoundStanding) × Adds old new actions × Steps (start count) actions last × IsRoundDone last

-- turns beside the order alone were told
abbrev pub AreEnded : List RoundAction → Type 0
AreEnded [] = Unit {0}
AreEnded (Began ready hosts ∷ actions) = ⊥
AreEnded (Gave place ∷ actions) = ⊥
AreEnded (Ended place ∷ actions) = AreEnded actions

abbrev pub Spares : (old new : Option (List RoundAction)) → Type 0
Spares old new = (actions : List RoundAction) × Adds old new actions × AreEnded actions

-- a turn is told where the slot is taken, and only there
abbrev pub told_if : Bool → Turn → List RoundAction
told_if true turn = action_of turn ∷ []
told_if false turn = []

-- a slot is taken
abbrev pub is_there : {A : Type 0} → Option (Option A) → Bool
is_there (Some (Some session)) = true
is_there (Some None) = false
is_there None = false

abbrev pub is_slot_taken : {A : Type 0} → List (Option A) → ℕ → Bool
is_slot_taken slots place = is_there (slice_get slots place)

-- the sessions that are ready have slots
abbrev pub HaveSlots : {A : Type 0} → List Bool → List (Option A) → Type 0
HaveSlots ready slots = (place : ℕ) → is_ready ready place ≡ true → is_slot_taken slots place ≡ true

-- how many are ready
abbrev pub ones : List Bool → ℕ
ones [] = 0
ones (true ∷ ready) = 1 + ones ready
ones (false ∷ ready) = ones ready
