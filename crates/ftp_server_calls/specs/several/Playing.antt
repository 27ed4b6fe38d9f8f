-- Turns of several sessions in order, and what they give (own choice).
use Rattle.std.specs.Prelude.{◌≡◌, ◌≤◌, ◌⊎◌, ℕ, eqb, Bool, List, [], ◌∷◌, Some, None, length, map, take, slice_get, if◌then◌else◌}
use Rattle.std.specs.Option.{unwrap_or}
use Rattle.ftp_path.specs.Path.{Names}
use Rattle.ftp_server_model.specs.Machine.{IsReading, Reading}
use Rattle.ftp_server_model.specs.Play.{Gift, Nothing}
use Rattle.ftp_server_model.specs.declared.counts.Counts.{Counts as Told}
use Rattle.ftp_server_calls.specs.one.Cues.{cue_of}
use Rattle.ftp_server_calls.specs.one.Order.{CalmFirst}
use Rattle.laws_server.specs.several.Company.{AreInSlot, IsCompany, TurnsAreAt, alone_below, given_to_us, our_turns}
use Rattle.laws_server.specs.several.Several.{Slot, Several, Turn, called, calls_of, left_by_all, played_on}
use Rattle.ftp_server_calls.specs.several.Slots.{Slots, SlotTurned, refusals_at, several_of}
use Rattle.ftp_server_calls.specs.declared.several.playing.Turn.{Turn as Held}

-- turns of a program, as the definitions have them
abbrev pub turn_of : {A : Type 0} → Held A → Turn
turn_of turn = record { slot = turn.slot; cue = cue_of turn.cue }

abbrev pub turns_of : {A : Type 0} → List (Held A) → List Turn
turns_of turns = map turn_of turns

-- ---- turns in order, whatever fails in them

-- nobody has this slot: nothing is given, and all stays
pub record IsNobody (turn : Turn) (gift : Gift) (old new : Slots) : Type 0 where
  pub free : slice_get old.slots turn.slot ≡ None
  pub none : gift ≡ Nothing
  pub stays : new ≡ old

-- a turn gave this, and left this
abbrev pub Takes : Turn → Gift → (old new : Slots) → Type 0
Takes turn gift old new = SlotTurned turn gift old new ⊎ IsNobody turn gift old new

-- nothing failed in it: no growth was refused to the session in the slot, and the tree's device neither failed nor strayed
abbrev pub IsCalm : Turn → (old new : Slots) → Type 0
IsCalm turn old new = (new.failures ≡ old.failures) × (refusals_at turn.slot new ≡ refusals_at turn.slot old)

-- what a program is told of failures
abbrev pub told_at : ℕ → Slots → Told
told_at slot s = record { refusals = unwrap_or (refusals_at slot s) 0; failures = s.failures.told }

-- each was made: in the first `calm` of them nothing failed, and in the next, if there is one, something did
abbrev pub AreTaken : (calm : ℕ) → List Turn → List Gift → (old new : Slots) → Type 0
AreTaken = CalmFirst Takes IsCalm

-- the first of the turns were made
pub record TakesSome (turns : List Turn) (old new : Slots) : Type 0 where
  pub count : ℕ
  pub few : count ≤ length turns
  pub calm : ℕ
  pub gifts : List Gift
  pub made : AreTaken calm (take count turns) gifts old new

-- ---- what the definitions say of them

-- what turns give, one after another
unfoldable pub gifts_by_turns : Reading → List Turn → Several → List Gift
gifts_by_turns read [] s = []
gifts_by_turns read (turn ∷ turns) s = (called read turn s).0 ∷ gifts_by_turns read turns (called read turn s).1

-- the first turns gave what the definitions of several sessions say; where these are all, so is what was left
pub record PlaysSeveral (calm : ℕ) (turns : List Turn) (gifts : List Gift) (old new : Slots) : Type 0 where
  pub gave : (read : Reading) → IsReading read → take calm gifts ≡ gifts_by_turns read (take calm turns) (several_of old)
  pub left : (read : Reading) → IsReading read → calm ≡ length turns → several_of new ≡ left_by_all read turns (several_of old)

-- what some of the sessions were given
unfoldable pub ours_of : (ours : ℕ → Bool) → List Turn → List Gift → List Gift
ours_of ours [] gifts = []
ours_of ours (turn ∷ turns) [] = []
ours_of ours (turn ∷ turns) (gift ∷ gifts) = if ours turn.slot then gift ∷ ours_of ours turns gifts else ours_of ours turns gifts

-- Of the first turns: what a session was given is what a server of its own gives to its calls, whose map is exchanged before each
abbrev pub EachIsOwn : (calm : ℕ) → List Turn → List Gift → Slots → Type 0
EachIsOwn calm turns gifts old =
    (read : Reading) (slot : ℕ) (v : Slot) → IsReading read → slice_get (several_of old).slots slot ≡ Some v
    → ours_of (λ other. eqb other slot) (take calm turns) (take calm gifts) ≡ played_on read (calls_of read slot (take calm turns) (several_of old)) v

-- Of the first turns: what sessions below one root were given, beside others below roots that have no path with it in common, is what they are given without
-- these, and of the map with their part alone
abbrev pub KeepsCompany : (calm : ℕ) → List Turn → List Gift → Slots → Type 0
KeepsCompany calm turns gifts old =
    (read : Reading) (root : Names) (ours : ℕ → Bool) (roots : ℕ → Names) → IsReading read → IsCompany root ours roots → AreInSlot roots (several_of old).slots
    → TurnsAreAt read roots (take calm turns) (several_of old)
    → ours_of ours (take calm turns) (take calm gifts) ≡ given_to_us read ours (our_turns ours (take calm turns)) (alone_below root (several_of old))
