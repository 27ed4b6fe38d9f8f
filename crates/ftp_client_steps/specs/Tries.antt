-- An upload over breaks as it is held.
use Rattle.std.specs.Prelude.{ℕ, List, [], Option, unwrap_or}
use Rattle.ftp_operation.specs.declared.op.Op.{Op}
use Rattle.ftp_operation.specs.declared.op.Op.TheVariants as Ops
use Rattle.ftp_client_model.specs.Tries.{OverBreaks, over_breaks}
use Rattle.ftp_client_model.specs.Tries.{Run as Seen}
use Rattle.ftp_client_steps.specs.declared.upload_tries.Run.{Run}

-- the octets that are lent to an operation: all those of a Put
abbrev pub lent : Op (List ℕ) → List ℕ
lent (Ops.Put path octets how) = octets
lent op = []

-- all octets of a run: its own, or those that it lent to the operation under way
abbrev pub all_octets : Option (List ℕ) → Op (List ℕ) → List ℕ
all_octets octets op = unwrap_or octets (lent op)

-- the upload of a run of which this operation is under way
abbrev pub upload_of_run : {A : Type 0} → Op (List ℕ) → Run A → OverBreaks
upload_of_run op run = over_breaks run.path (all_octets run.octets op) run.how

-- the run
abbrev pub run_in : {A : Type 0} → Op (List ℕ) → Run A → Seen
run_in op run = record { upload = upload_of_run op run; left = run.left }
