-- What an account has no right to do is refused before anything else by the map, which is asked for one thing alone: whether a file stands where one is
-- to be put. An account without a right to change changes nothing.
use Rattle.std.specs.Prelude.{◌≡◌, ℕ, List, Option, None, is_none, if◌then◌else◌}
use Rattle.ftp_tree.specs.Tree.{Table}
use Rattle.ftp_operation.specs.Rights.{all_rights, no_rights}
use Rattle.ftp_operation.specs.declared.op.Op.{Op}
use Rattle.ftp_operation.specs.declared.op.Op.TheVariants as Ops
use Rattle.ftp_direct.specs.declared.refusal.Refusal.{Refusal}
use Rattle.ftp_direct.specs.Direct.{State, answers, barred, barred_put, named, offset_refusal, or_refused, refusal}

-- what the account may not do of an operation; an offset without a meaning is told first
abbrev pub barring : State → Op (List ℕ) → Option Refusal
barring state (Ops.MakeDir text) = barred state.rights.make_dir
barring state (Ops.RemoveDir text) = barred state.rights.remove_dir
barring state (Ops.Delete text) = barred state.rights.delete
barring state (Ops.Rename text new) = barred state.rights.rename
barring state (Ops.Put text octets how) = barred_put state (named state text)
barring state (Ops.Append text octets how) = barred_put state (named state text)
barring state (Ops.PutFrom text offset octets how) = if is_none (offset_refusal offset how) then barred_put state (named state text) else None
barring state other = None

-- the state of an account with all rights, of which renaming onto files is had as it is here
abbrev pub free : State → State
free state = record state { rights = record all_rights { onto = state.rights.onto } }

-- so an operation is refused for want of a right, or as that of an account with all rights
abbrev pub RightsComeFirst : Type 0
RightsComeFirst = (state : State) (op : Op (List ℕ)) → refusal state op ≡ or_refused (barring state op) (refusal (free state) op)

-- whoever may change nothing leaves the map as it is, whatever he asks
abbrev pub LookersChangeNothing : Type 0
LookersChangeNothing = (state : State) (orders : List (Op (List ℕ) × ℕ)) → state.rights ≡ no_rights → (answers state orders).1.table ≡ state.table
