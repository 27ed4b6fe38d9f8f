-- How many octets of an upload may come, and what is to be said of those that came.
use Rattle.std.specs.Prelude.{◌≡◌, ◌<◌, ◌+◌, ◌^◌, ℕ, Bool, true, false, not, List, Option, Some, None, nat_le, is_some}
use Rattle.ftp_path.specs.Path.{Names}
use Rattle.ftp_tree.specs.Tree.{Table, octets_refusal}
use Rattle.ftp_wire.specs.declared.decoded.Decoded.{Decoded}
use Rattle.ftp_wire.specs.declared.decoded.Decoded.TheVariants as Heards
use Rattle.ftp_server_replies.specs.declared.transfer.Told.{Told}
use Rattle.ftp_server_replies.specs.declared.transfer.Told.TheVariants as Tells

-- behind the octets that are kept the file at a path may have so many more, and not one beyond
pub record Leaves (part : Table) (path : Names) (keep most : ℕ) : Type 0 where
  pub limit : (count : ℕ) → is_some (octets_refusal part path (keep + count)) ≡ not (nat_le count most)
  pub short : keep + most < 2 ^ 64

-- with the last octet the file passes its limit
abbrev pub is_over : Decoded → Bool
is_over Heards.More = false
is_over (Heards.Faulty fault) = false
is_over Heards.Over = true
is_over Heards.NoMemory = false

-- the answer to a marker tells its text, and so many octets
abbrev pub IsMark : List ℕ → ℕ → Told → Type 0
IsMark text held Tells.Nothing = ⊥
IsMark text held (Tells.Mark marker) = (marker.text.items ≡ text) × (marker.held ≡ held)
IsMark text held Tells.Faulty = ⊥
IsMark text held Tells.NoMemory = ⊥

-- a marker is answered by the octets kept and those that were settled when it came
abbrev pub IsMarkerAnswer : ℕ → Option ℕ → List ℕ → Told → Type 0
IsMarkerAnswer keep None text told = told ≡ Tells.Nothing
IsMarkerAnswer keep (Some held) text told = IsMark text (keep + held) told

-- what is to be said of what was heard
abbrev pub IsSaidOfHeard : ℕ → Option ℕ → List ℕ → Decoded → Told → Type 0
IsSaidOfHeard keep mark text Heards.More told = IsMarkerAnswer keep mark text told
IsSaidOfHeard keep mark text (Heards.Faulty fault) told = told ≡ Tells.Faulty
IsSaidOfHeard keep mark text Heards.Over told = IsMarkerAnswer keep mark text told
IsSaidOfHeard keep mark text Heards.NoMemory told = told ≡ Tells.NoMemory
