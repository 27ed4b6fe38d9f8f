-- One tree and the sessions in their slots: what rounds make of both (own choice).
use Rattle.std.specs.Prelude.{◌≡◌, ◌⊎◌, ◌<◌, ℕ, List, [], ◌∷◌, length, map, Option, Some, None, slice_get, slice_set}
use Rattle.std.specs.Option.{option_map}
use Rattle.tool_scheduler.specs.Rounds.{host_in}
use Rattle.tool_scheduler.specs.declared.slot.TurnResult.{TurnResult}
use Rattle.tool_scheduler.specs.declared.slot.TurnResult.TheVariants as Results
use Rattle.tool_scheduler.specs.declared.table.TakenSlot.{TakenSlot}

-- who has a slot: the session, and as whom its client counts
pub record Occupant (S : Type 0) : Type 0 where
  pub session : S
  pub host : ℕ

-- the one tree, and who has each slot, where one has it
pub record Shared (T S : Type 0) : Type 0 where
  pub tree : T
  pub slots : List (Option (Occupant S))

-- as whom the client in a slot counts
abbrev pub host_of : {S : Type 0} → Option (Option (Occupant S)) → ℕ
host_of (Some (Some occupant)) = occupant.host
host_of (Some None) = 0
host_of None = 0

-- the clients in the slots count as these
abbrev pub AreHosts : {S : Type 0} → List ℕ → List (Option (Occupant S)) → Type 0
AreHosts hosts slots = (place : ℕ) → place < length hosts → host_in hosts place ≡ host_of (slice_get slots place)

-- what happens to them: a round begins, of which whoever has the tree is told, and as whom the clients count; the session in a slot has a turn; a session that
-- begins takes a free slot
pub data SharedEvent : Type 0 where
  Began : (hosts : List ℕ) → SharedEvent
  Turned : (place : ℕ) → (result : TurnResult) → SharedEvent
  Seated : (place : ℕ) → SharedEvent

-- what a turn leaves in its slot: the session, or nothing where that is over
abbrev pub left_by : {S : Type 0} → TurnResult → S → Option S
left_by Results.Over session = None
left_by Results.Later session = Some session
left_by Results.More session = Some session

-- the session in a slot has a turn, with the tree that stands; what it leaves of that stands from then on, and all other sessions stay
pub record TurnsIn {T S : Type 0} (takes : T → T → TurnResult → S → S → Type 0) (place : ℕ) (result : TurnResult) (old new : Shared T S) : Type 0 where
  pub before : S
  pub after : S
  pub host : ℕ
  pub sits : slice_get old.slots place ≡ Some (Some (record { session = before; host = host }))
  pub took : takes old.tree new.tree result before after
  pub left : new.slots ≡ slice_set old.slots place (left_by result (record { session = after; host = host }))

-- a session that starts takes a free slot; the tree stays, and all other sessions
pub record SeatsIn {T S : Type 0} (starts : S → Type 0) (place : ℕ) (old new : Shared T S) : Type 0 where
  pub occupant : Occupant S
  pub started : starts occupant.session
  pub free : slice_get old.slots place ≡ Some None
  pub seated : new ≡ record old { slots = slice_set old.slots place (Some occupant) }

-- what an owner says of its tree and sessions: what becomes of the tree as a round begins, how a session starts, and what a turn does
pub record Rules (T S : Type 0) : Type 1 where
  pub begins : (hosts : List ℕ) → T → T → Type 0
  pub starts : S → Type 0
  pub takes : T → T → TurnResult → S → S → Type 0

abbrev pub rules_of : {T S : Type 0} → (List ℕ → T → T → Type 0) → (S → Type 0) → (T → T → TurnResult → S → S → Type 0) → Rules T S
rules_of begins starts takes = record { begins = begins; starts = starts; takes = takes }

-- what each event does
abbrev pub Happens : {T S : Type 0} → Rules T S → SharedEvent → (old new : Shared T S) → Type 0
Happens rules (Began hosts) old new = rules.begins hosts old.tree new.tree × AreHosts hosts old.slots × (new.slots ≡ old.slots)
Happens rules (Turned place result) old new = TurnsIn rules.takes place result old new
Happens rules (Seated place) old new = SeatsIn rules.starts place old new

-- so do events, the last one first: each finds the tree and the sessions that the one before left
abbrev pub Happened : {T S : Type 0} → Rules T S → List SharedEvent → (old new : Shared T S) → Type 0
Happened rules [] old new = new ≡ old
Happened {T} {S} rules (event ∷ before) old new = (between : Shared T S) × Happened rules before old between × Happens rules event between new

-- nothing else happened to the tree and to the sessions
pub record OnlyShared {T S : Type 0} (rules : Rules T S) (old new : Shared T S) : Type 0 where
  pub events : List SharedEvent
  pub happened : Happened rules events old new

-- no slot is taken
abbrev pub AreFree : {A : Type 0} → List (Option A) → Type 0
AreFree {A} slots = (place : ℕ) (occupant : A) → slice_get slots place ≡ Some (Some occupant) → ⊥

-- who has the slots of a table
abbrev pub occupant_of : {S : Type 0} → TakenSlot S → Occupant S
occupant_of taken = record { session = taken.session.value; host = taken.host }

abbrev pub occupants_of : {S : Type 0} → List (Option (TakenSlot S)) → List (Option (Occupant S))
occupants_of slots = map (option_map occupant_of) slots

-- a tree beside a table
abbrev pub shared : {T S : Type 0} → T → List (Option (TakenSlot S)) → Shared T S
shared tree slots = record { tree = tree; slots = occupants_of slots }

-- a slot is freed of the session that had it; where it had none, all slots stay
abbrev pub Frees : {A : Type 0} → (place : ℕ) → Option A → (old new : List (Option A)) → Type 0
Frees place (Some taken) old new = (slice_get old place ≡ Some (Some taken)) × (new ≡ slice_set old place None)
Frees place None old new = new ≡ old

-- a session takes a free slot, or no slot is free, and all stay
abbrev pub Seats : {S : Type 0} → S → (old new : List (Option (TakenSlot S))) → Type 0
Seats {S} session old new =
    (new ≡ old)
    ⊎ ((place : ℕ) × (taken : TakenSlot S) × (slice_get old place ≡ Some None) × (taken.session.value ≡ session) × (new ≡ slice_set old place (Some taken)))

-- from no session to the sessions that stand at last: nothing but rounds, turns and sessions that begin happened to the tree
pub record IsServed {T S : Type 0} (rules : Rules T S) (old new : T) : Type 0 where
  pub first : List (Option (Occupant S))
  pub free : AreFree first
  pub last : List (Option (Occupant S))
  pub only : OnlyShared rules (record { tree = old; slots = first }) (record { tree = new; slots = last })
