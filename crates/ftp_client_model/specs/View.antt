-- What a client holds: who logs in where, how far it has come with the server, the operation under way, the settings that the
-- server accepted, the data connection, the reply being heard, and the octets owed (RFC 959, sections 2.3 and 5.4).
use Rattle.std.specs.Prelude.{ℕ, Bool, true, false, ◌||◌, List, [], Option, None}
use Rattle.ftp_endpoint.specs.declared.host.Host.{Host}
use Rattle.ftp_operation.specs.Answer.{Said, Lost, Strange, Memory}
use Rattle.ftp_operation.specs.declared.op.Op.{Op}
use Rattle.ftp_wire.specs.Decoder.{Decoder}
use Rattle.ftp_ends.specs.Ear.{Ear, quiet}
use Rattle.ftp_settings.specs.Representation.{defaults}
use Rattle.ftp_reply.specs.Reader.{Gathered, Between}
use Rattle.ftp_client_model.specs.Tries.{Run}
use Rattle.ftp_client_model.specs.declared.client.Abort.{Abort}
use Rattle.ftp_client_model.specs.declared.client.Failure.{Failure}
use Rattle.ftp_client_model.specs.declared.client.Failure.TheVariants as Failures
use Rattle.ftp_client_model.specs.declared.client.ClientLink.{ClientLink}
use Rattle.ftp_client_model.specs.declared.client.ClientLink.TheVariants as Data
use Rattle.ftp_client_model.specs.declared.client.Replied.{Replied}
use Rattle.ftp_client_model.specs.declared.client.Standing.{Standing}
use Rattle.ftp_client_model.specs.declared.client.Standing.TheVariants as Stands
use Rattle.ftp_client_model.specs.declared.client.Step.{Step}
use Rattle.ftp_settings.specs.declared.representation.Representation.{Representation}

-- what goes over the data connection: the octets of an upload that are still to give, with the last mmmm of a 110 reply; or what
-- the octets of a download have said, with its last marker that is a number
pub data Flow : Type 0 where
  Sending : (left : List ℕ) → (mark : Option ℕ) → Flow
  Receiving : (decoder : Decoder) → (mark : Option ℕ) → Flow

-- a transfer whose command was sent: which replies to it came, what became of its ABOR, and what goes over the data connection
pub record Transfer : Type 0 where
  pub replied : Replied
  pub abort : Abort
  pub flow : Flow

-- the operation: none; one that was begun and waits for the end of the login; one of which this step is under way; one whose
-- transfer's command was sent; or the answer of one that is done, until it is taken
pub data Job : Type 0 where
  Idle : Job
  Waiting : (op : Op (List ℕ)) → Job
  Doing : (op : Op (List ℕ)) → (step : Step) → Job
  Transferring : (op : Op (List ℕ)) → (transfer : Transfer) → Job
  Told : (answer : Said) → Job

-- `run`: the upload over breaks of which the operation is a part. `closing`: a link, or a port that is listened at, is to be closed,
-- and no other call on the data connection means anything
pub record View : Type 0 where
  pub user : List ℕ
  pub pass : List ℕ
  pub here : Host
  pub peer : Host
  pub standing : Standing
  pub job : Job
  pub run : Option Run
  pub settings : Representation
  pub connection : ClientLink
  pub closing : Bool
  pub ear : Ear
  pub gathered : Gathered
  pub owed : List ℕ

-- at the start the server is to speak first, and its settings are the defaults
abbrev pub client : (user pass : List ℕ) → (here peer : Host) → View
client user pass here peer = record {
  user = user;
  pass = pass;
  here = here;
  peer = peer;
  standing = Stands.Greeting;
  job = Idle;
  run = None;
  settings = defaults;
  connection = Data.Free;
  closing = false;
  ear = quiet;
  gathered = Between;
  owed = [];
}

-- ---- what is left behind

-- a link, or a port that is listened at, stands
abbrev pub stands : ClientLink → Bool
stands Data.Free = false
stands Data.ListenWanted = false
stands (Data.Listening port) = true
stands (Data.Connecting endpoint) = false
stands (Data.Accepting port) = true
stands Data.Open = true
stands (Data.Over ending) = false

-- what stands is to be closed
abbrev pub dropped : View → View
dropped v = record v { connection = Data.Free; closing = v.closing || stands v.connection }

-- all is done that was begun, and the answer stands until it is taken
abbrev pub done_with : Said → View → View
done_with answer v = record v { job = Told answer; run = None }

-- the answer of every operation after a failure
abbrev pub failure_said : Failure → Said
failure_said Failures.Lost = Lost
failure_said Failures.Strange = Strange
failure_said Failures.Memory = Memory

-- an operation under way is answered with it; an answer that was not taken yet stays
abbrev pub failed_job : Said → Job → Job
failed_job answer Idle = Idle
failed_job answer (Waiting op) = Told answer
failed_job answer (Doing op step) = Told answer
failed_job answer (Transferring op transfer) = Told answer
failed_job answer (Told other) = Told other

-- nothing is being heard or owed any more
abbrev pub silent : View → View
silent v = record v { ear = quiet; gathered = Between; owed = [] }

-- the client has failed for good: it sends and hears no more, and what stands is to be closed; a second failure changes nothing
abbrev pub fails_by : Standing → Failure → View → View
fails_by (Stands.Failed before) failure v = v
fails_by standing failure v =
    record (silent (dropped v)) { standing = Stands.Failed failure; job = failed_job (failure_said failure) v.job; run = None }

-- by how far it has come
abbrev pub fails : Failure → View → View
fails failure v = fails_by v.standing failure v

-- the server said what has no place
abbrev pub strange : View → View
strange v = fails Failures.Strange v
