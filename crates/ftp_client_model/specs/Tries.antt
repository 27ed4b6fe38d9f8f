-- An upload that goes on over breaks, as a run of operations, each chosen by the answer of the one before (own choice: RFC 959, section
-- 3.5, leaves the recovery of a transfer to the user). No command and no reply stands here.
use Rattle.std.specs.Prelude.{ℕ, ◌-◌, ◌==◌, ◌&&◌, Bool, true, false, nat_le, List, [], length, drop, Option, Some, None, if◌then◌else◌}
use Rattle.ftp_operation.specs.Answer.{Said, Number, Refused, Broken, Unopened}
use Rattle.ftp_operation.specs.declared.op.How.{How}
use Rattle.ftp_operation.specs.declared.op.Op.{Op}
use Rattle.ftp_operation.specs.declared.op.Op.TheVariants as Ops
use Rattle.ftp_reply.specs.declared.code.TheConstants.{UNAVAILABLE}
use Rattle.ftp_settings.specs.Representation.{same_kind, same_structure}
use Rattle.ftp_settings.specs.declared.representation.Kind.TheVariants as Kinds
use Rattle.ftp_settings.specs.declared.representation.Representation.{Representation}
use Rattle.ftp_settings.specs.declared.representation.Structure.TheVariants as Structures

-- an upload over breaks: a path, all octets of the file, and how they go
pub record OverBreaks : Type 0 where
  pub path : List ℕ
  pub octets : List ℕ
  pub how : How

-- of these parts
abbrev pub over_breaks : (path octets : List ℕ) → How → OverBreaks
over_breaks path octets how = record { path = path; octets = octets; how = how }

-- own choice: at most so many Put and PutFrom
abbrev pub most_tries : ℕ
most_tries = 16

-- type I and file structure: the octets of the file are those of the transfer, and SIZE counts them (RFC 3659, section 4)
abbrev pub counts_as_file : Representation → Bool
counts_as_file settings = same_kind settings.kind Kinds.Image && same_structure settings.structure Structures.File

-- all octets from the start
abbrev pub whole_put : OverBreaks → Op (List ℕ)
whole_put u = Ops.Put u.path u.octets u.how

-- those behind the first so many
abbrev pub rest_put : OverBreaks → ℕ → Op (List ℕ)
rest_put u count = Ops.PutFrom u.path count (drop count u.octets) u.how

-- own choice: an upload in other settings is as an operation that can't be sent
abbrev pub first_try : OverBreaks → Op (List ℕ)
first_try u = if counts_as_file u.how.representation then whole_put u else Ops.MakeDir []

-- the server has so many octets of the file: the rest, or all anew where they are more than there are
abbrev pub try_behind : OverBreaks → ℕ → Op (List ℕ)
try_behind u count = if nat_le count (length u.octets) then rest_put u count else whole_put u

-- after SIZE: the rest, or all anew where there is no file; after another answer nothing
abbrev pub after_size : OverBreaks → Said → Option (Op (List ℕ))
after_size u (Number count) = Some (try_behind u count)
after_size u (Refused code) = if code == UNAVAILABLE then Some (whole_put u) else None
after_size u other = None

-- after a Put or a PutFrom: SIZE after a break, and the same again where nothing was opened
abbrev pub after_try : OverBreaks → Op (List ℕ) → Said → Option (Op (List ℕ))
after_try u op (Broken got mark) = Some (Ops.Size u.path u.how)
after_try u op Unopened = Some op
after_try u op other = None

-- every operation of a run but SIZE is a try
abbrev pub is_size : Op (List ℕ) → Bool
is_size (Ops.Size path how) = true
is_size op = false

-- what follows an operation that was answered so
abbrev pub next_of : OverBreaks → Op (List ℕ) → Said → Option (Op (List ℕ))
next_of u op answer = if is_size op then after_size u answer else after_try u op answer

-- ---- a run, which counts its tries

-- an upload over breaks that is under way, and how many Put and PutFrom may still begin
pub record Run : Type 0 where
  pub upload : OverBreaks
  pub left : ℕ

-- a run at its first try
abbrev pub run_of : OverBreaks → Run
run_of u = record { upload = u; left = most_tries - 1 }

-- the next operation of a run: none behind the last try, so that SIZE is asked only where another can follow
abbrev pub next_in : Run → Op (List ℕ) → Said → Option (Op (List ℕ))
next_in run op answer = if run.left == 0 then None else next_of run.upload op answer

-- a run of which this operation is begun
abbrev pub run_at : Op (List ℕ) → Run → Run
run_at op run = if is_size op then run else record run { left = run.left - 1 }
