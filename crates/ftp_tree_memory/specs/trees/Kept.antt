-- Octets, however they are held.
use Rattle.std.specs.Prelude.{ℕ, List}
use Rattle.ftp_tree_memory.specs.declared.trees.kept.Kept.{Kept}
use Rattle.ftp_tree_memory.specs.declared.trees.kept.Kept.TheVariants.{Own, Shared}

-- the octets of one alone or of several
abbrev pub octets_of : {A : Type 0} → Kept A → List ℕ
octets_of (Own octets) = octets
octets_of (Shared octets) = octets.value
