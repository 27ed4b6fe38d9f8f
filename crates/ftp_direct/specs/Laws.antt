-- What holds of operations below an account's root, and of offsets.
use Rattle.std.specs.Prelude.{◌≡◌, ◌↔◌, ℕ, Bool, List, [], Some}
use Rattle.ftp_path.specs.Path.{Names}
use Rattle.ftp_tree.specs.Tree.{Table, under, with_part}
use Rattle.ftp_repr.specs.Skipping.{IsPlaceOfOffset}
use Rattle.ftp_settings.specs.declared.representation.Kind.{Kind}
use Rattle.ftp_operation.specs.declared.op.Op.{Op}
use Rattle.ftp_operation.specs.declared.rights.Rights.{Rights}
use Rattle.ftp_operation.specs.Answer.{Said}
use Rattle.ftp_direct.specs.Direct.{State, answers, place_in, standing}

-- an offset leads to a place just where the first octets up to there go as so many
abbrev pub OffsetsLead : Type 0
OffsetsLead = (kind : Kind) (octets : List ℕ) (offset place : ℕ) → (place_in kind octets offset ≡ Some place) ↔ IsPlaceOfOffset kind octets offset place

-- operations below a root are those of the part below it, as a map of its own; that part is then put back in its place
pub record AreBelow (table : Table) (root cwd : Names) (done own : List Said × State) : Type 0 where
  pub said : done.0 ≡ own.0
  pub left : done.1.table ≡ with_part table root own.1.table
  pub stands : done.1.cwd ≡ own.1.cwd

abbrev pub PartsAreApart : Type 0
PartsAreApart =
    (table : Table) (root cwd : Names) (known : Bool) (rights : Rights) (orders : List (Op (List ℕ) × ℕ))
    → AreBelow table root cwd (answers (standing table root cwd known rights) orders) (answers (standing (under table root) [] cwd known rights) orders)
