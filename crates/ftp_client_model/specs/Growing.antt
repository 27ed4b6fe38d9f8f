-- Where what follows of a transfer takes memory: an ABOR, the answer of a download, and the next operation of an upload over breaks. Its other
-- steps take none, so of `data_out` only the last can (own choice: no room for it is kept back).
use Rattle.std.specs.Prelude.{◌||◌, Bool, false, ℕ, List, Option, Some, None, is_some}
use Rattle.ftp_operation.specs.Answer.{Said}
use Rattle.ftp_operation.specs.declared.op.Op.{Op}
use Rattle.ftp_client_model.specs.Calls.{is_down, went}
use Rattle.ftp_client_model.specs.Dialogue.{closes_once_given, is_to_abort, judged, next_with}
use Rattle.ftp_client_model.specs.Tries.{Run}
use Rattle.ftp_client_model.specs.View.{View, Flow, Job, Transferring}
use Rattle.ftp_client_model.specs.declared.client.Abort.{Abort}
use Rattle.ftp_client_model.specs.declared.client.Abort.TheVariants as Aborts
use Rattle.ftp_client_model.specs.declared.client.ClientLink.{ClientLink}
use Rattle.ftp_client_model.specs.declared.client.ClientLink.TheVariants as Data
use Rattle.ftp_client_model.specs.declared.client.Ending.{Ending}
use Rattle.ftp_client_model.specs.declared.client.Replied.{Replied}
use Rattle.ftp_client_model.specs.declared.client.Replied.TheVariants as Replies

-- the transfer under way is to be ended by an ABOR
abbrev pub job_to_abort : ClientLink → Job → Bool
job_to_abort connection (Transferring op transfer) = is_to_abort connection op transfer
job_to_abort connection job = false

-- another operation of a run follows this answer
abbrev pub is_followed : Option Run → Op (List ℕ) → Option Said → Bool
is_followed run op None = false
is_followed run op (Some answer) = is_some (next_with run op answer)

-- an answer takes memory where it is made of the octets of a download, or where another operation of a run follows it
abbrev pub answer_grows : Option Run → Op (List ℕ) → Flow → Option Said → Bool
answer_grows run op flow answer = is_down flow || is_followed run op answer

-- so does the answer of the transfer under way, by its link's end and the code of its final reply
abbrev pub judging_grows : Ending → ℕ → Option Run → Job → Bool
judging_grows ending code run (Transferring op transfer) = answer_grows run op transfer.flow (judged ending transfer.abort code op transfer.flow)
judging_grows ending code run job = false

-- it is made once its final reply, its link's end and the reply to its ABOR, where it sent one, are in
abbrev pub answering_grows_by : Replied → Abort → ClientLink → Option Run → Job → Bool
answering_grows_by (Replies.Final code) Aborts.Unsent (Data.Over ending) run job = judging_grows ending code run job
answering_grows_by (Replies.Final code) Aborts.Answered (Data.Over ending) run job = judging_grows ending code run job
answering_grows_by replied abort connection run job = false

-- of the transfer under way
abbrev pub answering_grows : Job → View → Bool
answering_grows (Transferring op transfer) v = answering_grows_by transfer.replied transfer.abort v.connection v.run (Transferring op transfer)
answering_grows job v = false

-- the ABOR of a Peek takes memory, and such an answer does; the close of an upload takes none
abbrev pub carrying_grows : View → Bool
carrying_grows v = let closed = closes_once_given v.job v in job_to_abort closed.connection closed.job || answering_grows closed.job closed

-- ---- `data_out`

-- octets of the transfer under way went out
abbrev pub job_went : ℕ → Job → Job
job_went count (Transferring op transfer) = Transferring op (record transfer { flow = went count transfer.flow })
job_went count job = job

-- behind so many octets: only where the final reply of an upload over breaks is in, of which another operation follows (what else could
-- follow of a transfer has followed before)
abbrev pub giving_grows : ℕ → View → Bool
giving_grows count v = carrying_grows (record v { job = job_went count v.job })
