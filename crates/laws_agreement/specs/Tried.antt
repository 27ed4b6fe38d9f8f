-- An upload over breaks as a run of operations, each of which was begun, and has its own answer and its own marks.
use Rattle.std.specs.Prelude.{◌≡◌, ◌⊎◌, ℕ, true, List, [], ◌∷◌, ◌++◌, Option, Some, None}
use Rattle.ftp_operation.specs.Answer.{Said}
use Rattle.ftp_operation.specs.Operation.{is_number}
use Rattle.ftp_operation.specs.declared.op.Op.{Op}
use Rattle.ftp_operation.specs.declared.op.Op.TheVariants as Ops
use Rattle.ftp_client_model.specs.Tries.{OverBreaks, Run, next_in, rest_put, run_at, whole_put}
use Rattle.ftp_client_model.specs.View.{Job, Waiting, Doing, Transferring}
use Rattle.ftp_client_model.specs.declared.client.ClientLink.{ClientLink}
use Rattle.ftp_client_model.specs.declared.client.ClientLink.TheVariants as Data
use Rattle.laws_world.specs.Agreement.{Order, Single}
use Rattle.laws_world.specs.World.{Mark}

-- an operation of a run that was answered, with the marks of its link
pub record Tried : Type 0 where
  pub op : Op (List ℕ)
  pub said : Said
  pub own : List Mark

-- each as an operation that was begun by itself
abbrev pub tried_orders : ℕ → List Tried → List Order
tried_orders moment [] = []
tried_orders moment (one ∷ past) = Single one.op moment ∷ tried_orders moment past

-- the marks of each
abbrev pub tried_marks : List Tried → List (List Mark)
tried_marks [] = []
tried_marks (one ∷ past) = one.own ∷ tried_marks past

-- the answers
abbrev pub tried_said : List Tried → List Said
tried_said [] = []
tried_said (one ∷ past) = one.said ∷ tried_said past

-- all marks together, these behind them
abbrev pub all_marks : List Tried → List Mark → List Mark
all_marks [] own = own
all_marks (one ∷ past) own = one.own ++ all_marks past own

-- from an operation of a run these lead to another operation of it, each the one that follows
abbrev pub IsChain : Run → Op (List ℕ) → List Tried → Run → Op (List ℕ) → Type 0
IsChain run op [] last other = (run ≡ last) × (op ≡ other)
IsChain run op (one ∷ past) last other =
    (one.op ≡ op) × (next : Op (List ℕ)) × (next_in run op one.said ≡ Some next) × IsChain (run_at next run) next past last other

-- the answer of the last, where it has one
abbrev pub told_of : Option Said → List Said
told_of None = []
told_of (Some said) = said ∷ []

-- behind it nothing follows
abbrev pub IsLastOfRun : Run → Op (List ℕ) → Option Said → Type 0
IsLastOfRun run op None = Unit {0}
IsLastOfRun run op (Some said) = next_in run op said ≡ None

-- the operation is under way at the client, or waits there for the end of the login
abbrev pub IsUnderWay : Op (List ℕ) → Job → ClientLink → Type 0
IsUnderWay op (Waiting other) connection = (other ≡ op) × (connection ≡ Data.Free)
IsUnderWay op (Doing other step) connection = other ≡ op
IsUnderWay op (Transferring other transfer) connection = other ≡ op
IsUnderWay op job connection = ⊥

-- an operation of an upload over breaks: all octets, those behind so many, or SIZE
abbrev pub IsTryOf : OverBreaks → Op (List ℕ) → Type 0
IsTryOf u op = (op ≡ whole_put u) ⊎ (((count : ℕ) × (op ≡ rest_put u count) × (is_number count ≡ true)) ⊎ (op ≡ Ops.Size u.path u.how))
