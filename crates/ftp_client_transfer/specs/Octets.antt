-- The octets that an operation sends, and those that come of one that is cut.
use Rattle.std.specs.Prelude.{ℕ, List, [], take}
use Rattle.ftp_operation.specs.declared.op.Op.{Op}
use Rattle.ftp_operation.specs.declared.op.Op.TheVariants as Ops

-- those of an upload; none of another
abbrev pub octets_of : Op (List ℕ) → List ℕ
octets_of (Ops.Put path octets how) = octets
octets_of (Ops.Append path octets how) = octets
octets_of (Ops.PutFrom path offset octets how) = octets
octets_of op = []

-- what octets come to where a download of them is cut: those of a file, and of a Peek no more than it asked for
abbrev pub cut_octets : Op (List ℕ) → List ℕ → List ℕ
cut_octets (Ops.Get path how) octets = octets
cut_octets (Ops.GetFrom path offset how) octets = octets
cut_octets (Ops.Peek path count how) octets = take count octets
cut_octets op octets = []
