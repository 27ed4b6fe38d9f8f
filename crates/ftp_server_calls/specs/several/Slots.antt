-- Sessions of a program over one tree, as clauses speak of them.
use Rattle.std.specs.Prelude.{◌≡◌, ℕ, List, Some, map, slice_get, slice_set, Option}
use Rattle.std.specs.Option.{option_map}
use Rattle.ftp_tree.specs.Change.{Failures}
use Rattle.ftp_tree.specs.Tree.{Table}
use Rattle.ftp_server_model.specs.Far.{Server}
use Rattle.ftp_server_model.specs.Machine.{IsReading, Reading}
use Rattle.ftp_server_model.specs.Play.{Gift}
use Rattle.laws_server.specs.several.Several.{Slot, Several, Turn, called}
use Rattle.ftp_server_calls.specs.several.Lent.{Lent, InSlot}
use Rattle.ftp_server_calls.specs.declared.several.sessions.InSlot.{InSlot as Held}
use Rattle.ftp_server_calls.specs.declared.several.sessions.Sessions.{Sessions}

-- the map of the one tree, what its device did so far, and each session in its slot
pub record Slots : Type 0 where
  pub table : Table
  pub failures : Failures
  pub slots : List InSlot

abbrev pub in_slot_of : {F : Type 0} → (F → Server) → Held F → InSlot
in_slot_of server sits = record { server = server sits.server; stood = sits.stood }

abbrev pub slots_seen : {A T F : Type 0} → (T → Table) → (T → Failures) → (F → Server) → Sessions A T F → Slots
slots_seen table failures server s = record { table = table s.tree; failures = failures s.tree; slots = map (in_slot_of server) s.slots.items }

-- as the definitions of several sessions see them
abbrev pub slot_of : InSlot → Slot
slot_of sits = record { view = sits.server.view; stood = sits.stood }

abbrev pub several_of : Slots → Several
several_of s = record { table = s.table; slots = map slot_of s.slots }

-- the session in a slot made a call with the one tree, and all other sessions stay
pub record SlotTurned (turn : Turn) (gift : Gift) (old new : Slots) : Type 0 where
  pub before : InSlot
  pub after : InSlot
  pub sits : slice_get old.slots turn.slot ≡ Some before
  pub lent : Lent turn.cue gift before old.table old.failures after new.table new.failures
  pub left : new.slots ≡ slice_set old.slots turn.slot after

-- the refusals of the session in a slot
abbrev pub refusals_at : ℕ → Slots → Option ℕ
refusals_at slot s = option_map (λ sits. sits.server.counts.refusals) (slice_get s.slots slot)

-- a turn gives this, and leaves this, where no growth was refused to the session and the tree's device did not fail or stray
abbrev pub GivesIn : Turn → Gift → (old new : Slots) → Type 0
GivesIn turn gift old new =
    new.failures ≡ old.failures → refusals_at turn.slot new ≡ refusals_at turn.slot old → (read : Reading) → IsReading read
    → (gift, several_of new) ≡ called read turn (several_of old)
