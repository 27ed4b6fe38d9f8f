-- What a line leaves whatever the tree's device gives: it says little while the data connection is busy, and keeps no longer name than came.
use Rattle.std.specs.Prelude.{◌≡◌, ◌≤◌, ◌⊎◌, ℕ, Bool, true, false, List, length, Result, Ok, Err}
use Rattle.ftp_command.specs.Command.{value_of}
use Rattle.ftp_command.specs.declared.command.Command.{Command}
use Rattle.ftp_command.specs.declared.value.Value.{Value}
use Rattle.ftp_command.specs.declared.value.Value.TheVariants as value
use Rattle.ftp_path.specs.Path.{Names}
use Rattle.ftp_server_model.specs.Held.{access_len}
use Rattle.ftp_server_model.specs.declared.heard.HeardLine.{HeardLine}
use Rattle.ftp_server_model.specs.declared.heard.HeardLine.TheVariants.{TooLong, Bad, Asks}
use Rattle.ftp_server_model.specs.declared.reply.ReplyKind.{ReplyKind}
use Rattle.ftp_server_model.specs.declared.reply.ReplyKind.TheVariants as Replies
use Rattle.ftp_server_model.specs.declared.session.Access.{Access}
use Rattle.ftp_server_model.specs.declared.session.ServerLink.{ServerLink}
use Rattle.ftp_server_model.specs.declared.session.ServerLink.TheVariants as Data
use Rattle.ftp_server_replies.specs.declared.fault.Fault.{Fault}
use Rattle.ftp_server_session.specs.declared.session.Session.{Session as Held}

-- a transfer is under way, or a port was asked for, however a transfer is held
abbrev pub is_busy : {J : Type 0} → ServerLink J → Bool
is_busy Data.Free = false
is_busy (Data.Asked asked) = true
is_busy (Data.Active endpoint) = false
is_busy Data.Passive = false
is_busy Data.Ready = false
is_busy (Data.Opening transfer way) = true
is_busy (Data.Transferring transfer) = true

-- a reply without a computed part, or none: all that is said by a command that leaves the data connection busy
abbrev pub is_short_reply : ReplyKind Names → Bool
is_short_reply Replies.Nothing = true
is_short_reply (Replies.Fixed text) = true
is_short_reply other = false

-- where the data connection is left busy, the reply is short
abbrev pub SaysLittle : {J : Type 0} → ServerLink J → Result (ReplyKind Names) Fault → Type 0
SaysLittle connection (Ok kind) = is_busy connection ≡ true → is_short_reply kind ≡ true
SaysLittle connection (Err fault) = Unit {0}

-- the octets of the name that a value is
abbrev pub value_name_len : Value (List ℕ) → ℕ
value_name_len (value.Name name) = length name
value_name_len other = 0

-- the octets of the name that a USER says
abbrev pub name_len : Command (List ℕ) → ℕ
name_len command = value_name_len (value_of command)

-- the same of a line
abbrev pub heard_name_len : HeardLine (List ℕ) → ℕ
heard_name_len TooLong = 0
heard_name_len (Bad fault) = 0
heard_name_len (Asks command) = name_len command

-- the name that waits for its password is no longer than the one before, or than one of this length that came
abbrev pub KeepsName : ℕ → (old new : Access (List ℕ)) → Type 0
KeepsName came old new = (access_len new ≤ access_len old) ⊎ (access_len new ≤ came)

-- a command that such a name may have come with leaves so much
abbrev pub LeavesLittle : {A T J : Type 0} → ℕ → (old new : Held A T J) → Result (ReplyKind Names) Fault → Type 0
LeavesLittle came old new result =
    (is_busy old.connection ≡ false → SaysLittle new.connection result) × KeepsName came old.access new.access
