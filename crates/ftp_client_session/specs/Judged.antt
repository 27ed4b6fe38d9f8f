-- What a transfer is answered, once its final reply and its link's end are in.
use Rattle.std.specs.Prelude.{ℕ, Bool, false, Option, None}
use Rattle.ftp_operation.specs.Answer.{Said}
use Rattle.ftp_client_model.specs.Calls.{is_down}
use Rattle.ftp_client_model.specs.Dialogue.{judged}
use Rattle.ftp_client_model.specs.View.{Job, Transferring}
use Rattle.ftp_client_model.specs.declared.client.Ending.{Ending}

-- of the transfer under way; without one nothing is
abbrev pub job_judged : Ending → ℕ → Job → Option Said
job_judged ending code (Transferring op transfer) = judged ending transfer.abort code op transfer.flow
job_judged ending code job = None

-- it is a download
abbrev pub job_is_down : Job → Bool
job_is_down (Transferring op transfer) = is_down transfer.flow
job_is_down job = false
