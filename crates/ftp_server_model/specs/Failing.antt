-- What a call leaves that was refused memory or whose device failed. Beside its view a server has two counts, of refused growths
-- and of its tree's device failures; both wrap. Where neither changed in a call, the call is the function of `Machine` or `Calls`;
-- else it leaves one of these. Every later call is a function again. Of a call in which the device strayed nothing of this is said.
use Rattle.std.specs.Prelude.{◌++◌, ◌≡◌, ◌⊎◌, ◌<◌, ℕ, Bool, true, false, List, [], ◌∷◌, length, Option, Some, None, is_some}
use Rattle.ftp_nvt.specs.Lines.{NvtEvent, line, too_long, owed}
use Rattle.ftp_command.specs.Command.{value_of}
use Rattle.ftp_command.specs.declared.command.Command.{Command}
use Rattle.ftp_command.specs.declared.value.Value.{Value}
use Rattle.ftp_command.specs.declared.value.Value.TheVariants as value
use Rattle.ftp_command.specs.declared.fault.CommandFault.TheVariants as Faults
use Rattle.ftp_mode.specs.Said.{Said}
use Rattle.ftp_wire.specs.Decoder.{read_on, octet_says}
use Rattle.ftp_tree.specs.Change.{Failures, NoStray}
use Rattle.ftp_ends.specs.Ear.{ear_step, ear_out}
use Rattle.ftp_server_model.specs.View.{Transfer, Session, View, line_limit}
use Rattle.ftp_server_model.specs.Endpoint.{forgotten, disconnected}
use Rattle.ftp_server_model.specs.Act.{forgets, is_allowed}
use Rattle.ftp_server_model.specs.Machine.{owes, replied, later, may_hear, is_idle, is_abort, heard_line, abort_said, Reading, faulted}
use Rattle.ftp_server_model.specs.Calls.{connection_of, may_receive, receives_octet, to_give, takes_given, given_step, takes_all, with_connection}
use Rattle.ftp_server_model.specs.declared.heard.HeardLine.{HeardLine}
use Rattle.ftp_server_model.specs.declared.heard.HeardLine.TheVariants.{TooLong, Bad, Asks}
use Rattle.ftp_server_model.specs.declared.reply.FixedReply.TheVariants as Texts
use Rattle.ftp_server_model.specs.declared.session.Pending.TheVariants as Pendings
use Rattle.ftp_server_model.specs.declared.session.Transfer.TheVariants as Transfers
use Rattle.ftp_server_model.specs.declared.session.ServerLink.{ServerLink}
use Rattle.ftp_server_model.specs.declared.session.ServerLink.TheVariants as Data

-- the two counts; with that of failures goes how often the device strayed
pub record Counts : Type 0 where
  pub refusals : ℕ
  pub failures : Failures

-- in a call the tree's device did not stray
abbrev pub KeepsCourse : (old new : Counts) → Type 0
KeepsCourse old new = NoStray old.failures new.failures

-- ---- a line

-- a command that could be read is answered 451, and what was pending for it is gone; a transfer command has forgotten the
-- endpoint; all else is as before (own choice)
abbrev pub line_lost : Command (List ℕ) → View → View
line_lost command v = replied Texts.LocalFault (forgets command (record v.session { pending = Pendings.Nothing })) v

-- an argument with a path, a name or another text, or that may leave its path out
abbrev pub value_may_fail : Value (List ℕ) → Bool
value_may_fail (value.Name name) = true
value_may_fail (value.Password word) = true
value_may_fail (value.Words text) = true
value_may_fail (value.WordsOrNone text) = is_some text
value_may_fail (value.Path text) = true
value_may_fail (value.PathOrNone text) = true
value_may_fail (value.Listed text) = true
value_may_fail other = false

-- the commands that may take memory, or ask something of the device: those with a path, a name or another text, and those that
-- tell entries
abbrev pub may_fail : Command (List ℕ) → Bool
may_fail command = value_may_fail (value_of command)

-- a command that may fail has failed, and is answered 451; one that wants a login is 530 without it, and takes no memory for that
abbrev pub LineFails : HeardLine (List ℕ) → View → View → Type 0
LineFails TooLong v w = ⊥
LineFails (Bad fault) v w = ⊥
LineFails (Asks command) v w = (is_allowed command v.session ≡ true) × (may_fail command ≡ true) × (w ≡ line_lost command v)

-- so a command that is answered 530 is never answered 451
abbrev pub NeverFailsWithoutLogin : Type 0
NeverFailsWithoutLogin = (command : Command (List ℕ)) (v w : View) → is_allowed command v.session ≡ false → LineFails (Asks command) v w → ⊥

-- the line that waits is acted on, and fails
abbrev pub WaitingFails : Option (HeardLine (List ℕ)) → View → View → Type 0
WaitingFails None v w = ⊥
WaitingFails (Some heard) v w = (is_idle v ≡ true) × LineFails heard (record v { waiting = None }) w

-- the end of a call, where the line that waits may fail
abbrev pub Late : View → View → Type 0
Late v w = (w ≡ later v) ⊎ WaitingFails v.waiting v w

-- ---- a transfer

-- an upload that cannot be installed is answered 451, with the map as it was
abbrev pub install_lost : Session → View → View
install_lost session v = replied Texts.LocalFault session v

-- ABOR ends an upload that cannot be installed; its own reply follows
abbrev pub AbortFails : ServerLink Transfer → View → View → Type 0
AbortFails (Data.Transferring (Transfers.Upload path keep d)) v w =
    Late (abort_said (install_lost (forgotten v.session) v)) w
AbortFails connection v w = ⊥

-- the end or the break of an upload that cannot be installed
abbrev pub InstallFails : ServerLink Transfer → View → View → Type 0
InstallFails (Data.Transferring (Transfers.Upload path keep d)) v w = Late (install_lost (disconnected v.session) v) w
InstallFails connection v w = ⊥

-- the data connection ended or broke, and the upload could not be installed
abbrev pub EndFails : View → View → Type 0
EndFails v w = InstallFails (connection_of v.session) v w

-- an upload that is below its limits is under way
abbrev pub is_taking : ServerLink Transfer → Bool
is_taking (Data.Transferring (Transfers.Upload path keep d)) = true
is_taking connection = false

-- it ends with 451 and the map as it was; its data connection is to be closed
abbrev pub NoRoom : View → View → Type 0
NoRoom v w = (is_taking v.session.connection ≡ true) × Late (faulted v) w

-- an octet of an upload had no room, after the first things that it says were taken
abbrev pub UploadFails : ServerLink Transfer → ℕ → View → View → Type 0
UploadFails (Data.Transferring (Transfers.Upload path keep d)) octet v w =
    (taken : List Said) × (rest : List Said) × (octet_says d octet ≡ taken ++ rest)
    × NoRoom (takes_all taken (with_connection (Data.Transferring (Transfers.Upload path keep (read_on d octet))) v)) w
UploadFails connection octet v w = ⊥

-- so many octets of a download or a listing were given, and what comes next was not had: memory was refused, or the device failed.
-- It ends with 451, and its data connection is to be closed before it is whole (own choice: 451 and not 426, since the fault is this end's)
abbrev pub GiveFails : ℕ → View → View → Type 0
GiveFails count v w = (count < length (to_give v)) × Late (faulted (takes_given (connection_of v.session) count v)) w

-- ---- what a call on the data connection leaves where a count changed

-- its end or its break: the upload could not be installed, or the line that waits failed
abbrev pub Ended : View → View → View → Type 0
Ended step old new = EndFails old new ⊎ Late step new

-- octets were given: those that come next were not had, or the line that waits failed
abbrev pub Given : ℕ → View → View → Type 0
Given count old new = GiveFails count old new ⊎ Late (given_step count old) new

-- ---- octets

-- a line fails as it is acted on: an ABOR of an upload, or any other line
abbrev pub ActingFails : (is_abort : Bool) → HeardLine (List ℕ) → View → View → Type 0
ActingFails true heard v w = AbortFails v.session.connection v w
ActingFails false heard v w = Late (record v { waiting = Some heard }) w

-- a value that holds a text
abbrev pub value_holds_text : Value (List ℕ) → Bool
value_holds_text (value.PathOrNone text) = is_some text
value_holds_text (value.Listed text) = is_some text
value_holds_text other = value_may_fail other

-- a command that holds a text; one without an argument takes no memory to be read
abbrev pub holds_text : Command (List ℕ) → Bool
holds_text command = value_holds_text (value_of command)

-- a command that takes memory to hold could not be read for want of it: the line is answered 451 when its turn comes, login or not
abbrev pub ReadingFails : HeardLine (List ℕ) → View → View → Type 0
ReadingFails (Asks command) v w = (holds_text command ≡ true) × (w ≡ heard_line (Bad Faults.Memory) v)
ReadingFails heard v w = ⊥

-- a whole line: it is heard as ever, could not be read, or failed as it was acted on
pub data LineIsHeard (heard : HeardLine (List ℕ)) (v w : View) : Type 0 where
  as_ever : w ≡ heard_line heard v → LineIsHeard heard v w
  not_read : ReadingFails heard v w → LineIsHeard heard v w
  not_done : ActingFails (is_abort heard v) heard v w → LineIsHeard heard v w

-- an event of the ear: a line, one that is too long, or an answer that is owed
abbrev pub EventIsHeard : Reading → NvtEvent → View → View → Type 0
EventIsHeard read (line text) v w = LineIsHeard (read text) v w
EventIsHeard read too_long v w = LineIsHeard TooLong v w
EventIsHeard read (owed answer) v w = w ≡ owes answer v

-- events in order, each of which may fail
abbrev pub EventsAreHeard : Reading → List NvtEvent → View → View → Type 0
EventsAreHeard read [] v w = w ≡ v
EventsAreHeard read (event ∷ events) v w = (x : View) × EventIsHeard read event v x × EventsAreHeard read events x w

-- one control octet
abbrev pub OctetIsHeard : Reading → View → ℕ → View → Type 0
OctetIsHeard read v octet w = EventsAreHeard read (ear_out line_limit v.ear octet) (record v { ear = ear_step line_limit v.ear octet }) w

-- control octets in order, each of which may be heard when its turn comes
abbrev pub AreHeard : Reading → View → List ℕ → View → Type 0
AreHeard read v [] w = w ≡ v
AreHeard read v (octet ∷ octets) w = (may_hear v ≡ true) × (x : View) × OctetIsHeard read v octet x × AreHeard read x octets w

-- one data octet
abbrev pub OctetIsReceived : View → ℕ → View → Type 0
OctetIsReceived v octet w = (w ≡ receives_octet v octet) ⊎ UploadFails (connection_of v.session) octet v w

-- data octets in order, each of which may be taken when its turn comes
abbrev pub AreReceived : View → List ℕ → View → Type 0
AreReceived v [] w = w ≡ v
AreReceived v (octet ∷ octets) w = (may_receive v ≡ true) × (x : View) × OctetIsReceived v octet x × AreReceived x octets w
