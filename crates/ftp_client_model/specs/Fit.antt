-- What a client keeps, so that it holds little: the line and the reply that it reads are within their limits, each operation that it is at can be
-- sent, and behind the octets that are owed at most one command follows before another reply is heard (own choices of the limits).
use Rattle.std.specs.Prelude.{ℕ, ◌+◌, ◌*◌, ◌<◌, ◌≤◌, List, length, Option, Some, None, IsTrue, if◌then◌else◌}
use Rattle.ftp_endpoint.specs.declared.host.Host.{Host}
use Rattle.ftp_endpoint.specs.Written.{IsTypedHost}
use Rattle.ftp_ends.specs.Ear.{Ear}
use Rattle.ftp_ends.specs.Limits.{IsShortLine}
use Rattle.ftp_operation.specs.Account.{is_user, is_password}
use Rattle.ftp_operation.specs.Operation.{can_be_sent}
use Rattle.ftp_path.specs.Path.{is_path_text}
use Rattle.ftp_reply.specs.Reader.{Gathered}
use Rattle.ftp_client_model.specs.Calls.{reply_limit}
use Rattle.ftp_client_model.specs.Dialogue.{awaits_reply, has_begun}
use Rattle.ftp_client_model.specs.Held.{gathered_len}
use Rattle.ftp_client_model.specs.Tries.{Run}
use Rattle.ftp_client_model.specs.View.{View, Job, Idle, Waiting, Doing, Transferring, Told}
use Rattle.ftp_client_model.specs.declared.client.Abort.{Abort}
use Rattle.ftp_client_model.specs.declared.client.Abort.TheVariants as Aborts
use Rattle.ftp_client_model.specs.declared.client.ClientLink.{ClientLink}
use Rattle.ftp_client_model.specs.declared.client.ClientLink.TheVariants as Data
use Rattle.ftp_client_model.specs.declared.client.Replied.{Replied}
use Rattle.ftp_client_model.specs.declared.client.Standing.{Standing}
use Rattle.ftp_client_model.specs.declared.client.Standing.TheVariants as Stands
use Rattle.ftp_client_model.specs.declared.client.Step.TheVariants as Steps

-- ---- the parts

-- the operation under way, or that waits, can be sent
abbrev pub IsSendable : Job → Type 0
IsSendable Idle = Unit {0}
IsSendable (Waiting op) = IsTrue (can_be_sent op)
IsSendable (Doing op step) = IsTrue (can_be_sent op)
IsSendable (Transferring op transfer) = IsTrue (can_be_sent op)
IsSendable (Told answer) = Unit {0}

-- so can those of a run: its path is one
abbrev pub IsSendableRun : Option Run → Type 0
IsSendableRun None = Unit {0}
IsSendableRun (Some run) = IsTrue (is_path_text run.upload.path)

-- a port that is listened at has 16 bits
abbrev pub IsTypedPort : ClientLink → Type 0
IsTypedPort (Data.Listening port) = port < 65536
IsTypedPort connection = Unit {0}

-- no operation is under way
abbrev pub HasNoOperation : Job → Type 0
HasNoOperation (Doing op step) = ⊥
HasNoOperation (Transferring op transfer) = ⊥
HasNoOperation job = Unit {0}

-- none is before the end of the login
abbrev pub IsCalmAt : Standing → Job → Type 0
IsCalmAt Stands.Greeting job = HasNoOperation job
IsCalmAt Stands.User job = HasNoOperation job
IsCalmAt Stands.Pass job = HasNoOperation job
IsCalmAt standing job = Unit {0}

-- the operation waits for a port to listen at, or for a link that the client opens
abbrev pub IsListening : Job → Type 0
IsListening (Doing op Steps.Listen) = Unit {0}
IsListening job = ⊥

abbrev pub IsDialling : Job → Type 0
IsDialling (Doing op Steps.Connect) = Unit {0}
IsDialling job = ⊥

-- it does where a port, or such a link, is wanted
abbrev pub IsTied : ClientLink → Job → Type 0
IsTied Data.ListenWanted job = IsListening job
IsTied (Data.Connecting endpoint) job = IsDialling job
IsTied connection job = Unit {0}

-- what does not change with a command
pub record IsSoundLogin (user pass : List ℕ) (here : Host) (run : Option Run) (connection : ClientLink) (ear : Ear) (gathered : Gathered) : Type 0 where
  pub user_fits : IsTrue (is_user user)
  pub pass_fits : IsTrue (is_password pass)
  pub host : IsTypedHost here
  pub sendable : IsSendableRun run
  pub port : IsTypedPort connection
  pub reading : IsShortLine reply_limit ear.line
  pub reply : gathered_len gathered ≤ 8192

-- of a view
abbrev pub IsSoundView : View → Type 0
IsSoundView v = IsSoundLogin v.user v.pass v.here v.run v.connection v.ear v.gathered

-- ---- how many commands may follow before another reply is heard: one at most

-- an operation may begin
abbrev pub next_of_idle : Standing → ℕ
next_of_idle Stands.Entered = 1
next_of_idle standing = 0

-- a transfer that has begun may end, or send its ABOR
abbrev pub next_of_transfer : Abort → Replied → ℕ
next_of_transfer Aborts.Sent replied = 0
next_of_transfer abort replied = if has_begun replied then 1 else 0

-- of a job
abbrev pub commands_next : Standing → Job → ℕ
commands_next standing Idle = next_of_idle standing
commands_next standing (Told answer) = next_of_idle standing
commands_next standing (Waiting op) = 0
commands_next standing (Doing op step) = if awaits_reply step then 0 else 1
commands_next standing (Transferring op transfer) = next_of_transfer transfer.abort transfer.replied

-- the most octets of a command as it is written, and of all that is owed: 1,024 octets while an octet is heard, an answer to a Telnet octet, and a
-- command
abbrev pub command_limit : ℕ
command_limit = 2200

abbrev pub owed_with_command : ℕ
owed_with_command = 1027 + command_limit

-- ---- all of it

-- a client that is fit
pub record IsFit (v : View) : Type 0 where
  pub sound : IsSoundView v
  pub sendable : IsSendable v.job
  pub calm : IsCalmAt v.standing v.job
  pub tied : IsTied v.connection v.job
  pub room : length v.owed + command_limit * commands_next v.standing v.job ≤ owed_with_command
