-- How a client that is held is seen by its definitions.
use Rattle.std.specs.Prelude.{ℕ, List, [], Bool, false, Option, None, option_map}
use Rattle.ftp_operation.specs.Answer.{Memory, said_of}
use Rattle.ftp_operation.specs.declared.op.Op.{Op}
use Rattle.ftp_ends.specs.Ear.{Ear, quiet}
use Rattle.ftp_reply.specs.Reader.{Gathered, Between}
use Rattle.ftp_client_model.specs.Calls.{left_of}
pub use Rattle.ftp_client_model.specs.Growing.{job_to_abort, job_went}
use Rattle.ftp_client_model.specs.Dialogue.{is_unsent, marked_flow}
use Rattle.ftp_client_model.specs.View.{View, Flow, Job, Idle, Waiting, Doing, Transferring, Told, dropped, failed_job, silent}
use Rattle.ftp_client_model.specs.View.{Transfer as Moved}
use Rattle.ftp_client_model.specs.declared.client.Failure.TheVariants as Failures
use Rattle.ftp_client_model.specs.declared.client.Standing.{Standing}
use Rattle.ftp_client_model.specs.declared.client.Standing.TheVariants as Stands
use Rattle.ftp_client_steps.specs.Hearing.{NotYet, heard_all}
use Rattle.ftp_client_steps.specs.Tries.{run_in}
use Rattle.ftp_client_session.specs.declared.dialogue.Dialogue.{Dialogue}
use Rattle.ftp_client_session.specs.declared.task.Task.{Task}
use Rattle.ftp_client_session.specs.declared.task.Task.TheVariants as Places
use Rattle.ftp_client_session.specs.declared.task.Transfer.{Transfer}

-- a transfer, by how what it carries is seen
abbrev pub transfer_seen : {F : Type 0} → (Op (List ℕ) → F → Flow) → Op (List ℕ) → Transfer F → Moved
transfer_seen flow op transfer = record { replied = transfer.replied; abort = transfer.abort; flow = flow op transfer.flow }

-- an operation and its place
abbrev pub job_of : {A F : Type 0} → (Op (List ℕ) → F → Flow) → Op (List ℕ) → Task A F → Job
job_of flow op Places.Idle = Idle
job_of flow op Places.Waiting = Waiting op
job_of flow op (Places.Doing step) = Doing op step
job_of flow op (Places.Transferring transfer) = Transferring op (transfer_seen flow op transfer)
job_of flow op (Places.Told answer) = Told (said_of answer)

-- after a failure nothing is being heard any more
abbrev pub ear_at : Standing → Ear → Ear
ear_at (Stands.Failed failure) ear = quiet
ear_at standing ear = ear

-- nor gathered
abbrev pub gathered_at : Standing → Gathered → Gathered
gathered_at (Stands.Failed failure) gathered = Between
gathered_at standing gathered = gathered

-- a client, by how what its transfer carries is seen
abbrev pub view_of : {A F : Type 0} → (Op (List ℕ) → F → Flow) → Dialogue A F → View
view_of flow d = record {
  user = d.login.user;
  pass = d.login.pass;
  here = d.here;
  peer = d.peer;
  standing = d.standing;
  job = job_of flow d.op d.place;
  run = option_map (run_in d.op) d.run;
  settings = d.settings;
  connection = d.connection;
  closing = d.closing;
  ear = ear_at d.standing d.hearing.ear;
  gathered = gathered_at d.standing d.hearing.gathered;
  owed = d.output;
}

-- what is done of the transfer under way; without one nothing is
abbrev pub in_job : (Op (List ℕ) → Moved → View → View) → Job → View → View
in_job f (Transferring op transfer) v = f op transfer v
in_job f job v = v

-- of a client
abbrev pub in_transfer : (Op (List ℕ) → Moved → View → View) → View → View
in_transfer f v = in_job f v.job v

-- the mmmm of a 110 reply is noted
abbrev pub job_noted : Option ℕ → Job → Job
job_noted mark (Transferring op transfer) = Transferring op (record transfer { flow = marked_flow mark transfer.flow })
job_noted mark job = job

-- the octets that are still to give
abbrev pub octets_of_job : Job → List ℕ
octets_of_job (Transferring op transfer) = left_of transfer.flow
octets_of_job job = []

-- octets came
abbrev pub job_heard : List ℕ → Job → Job
job_heard octets (Transferring op transfer) = Transferring op (record transfer { flow = heard_all transfer.flow octets })
job_heard octets job = job

-- behind none of them but perhaps the last a Peek has enough
abbrev pub JobNotYet : List ℕ → Job → Type 0
JobNotYet octets (Transferring op transfer) = NotYet op transfer.flow octets
JobNotYet octets job = Unit {0}

-- a transfer that sent no ABOR
abbrev pub job_unsent : Job → Bool
job_unsent (Transferring op transfer) = is_unsent transfer.abort
job_unsent job = false

-- of a client
abbrev pub to_abort : View → Bool
to_abort v = job_to_abort v.connection v.job

-- what is left of a client that has not failed, once it is short of memory
abbrev pub shorted : View → View
shorted v = record (silent (dropped v)) { standing = Stands.Failed Failures.Memory; job = failed_job Memory v.job; run = None }
