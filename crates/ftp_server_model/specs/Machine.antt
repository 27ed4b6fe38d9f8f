-- Lines of the control connection, as functions of the view: a line is acted on, or waits; how an upload ends; ABOR; control octets
-- (RFC 959, sections 4.1.3 and 5.4). Each call ends by `later`: the line that waits is acted on once it may be.
use Rattle.std.specs.Prelude.{◌≡◌, ℕ, ◌+◌, ◌-◌, Bool, true, false, not, ◌&&◌, List, [], ◌∷◌, ◌++◌, length, nat_le, Option, Some, None, is_some, is_none, if◌then◌else◌}
use Rattle.ftp_nvt.specs.Lines.{NvtEvent, line, too_long, owed}
use Rattle.ftp_command.specs.Command.{Says, Refuses}
use Rattle.ftp_command.specs.Line.{IsStated, IsTyped, line_of}
use Rattle.ftp_command.specs.declared.command.Command.{Command}
use Rattle.ftp_command.specs.declared.command.Command.TheVariants as command
use Rattle.ftp_path.specs.Path.{Names}
use Rattle.ftp_tree.specs.Tree.{octets_or_none, octets_refusal, installed, whenever}
use Rattle.ftp_tree.specs.declared.fault.TreeFault.TheVariants as Faults
use Rattle.ftp_direct.specs.Direct.{barred_put, or_refused, put_refusal, refused_name}
use Rattle.ftp_direct.specs.declared.refusal.Refusal.{Refusal}
use Rattle.ftp_ends.specs.Ear.{ear_step, ear_out}
use Rattle.ftp_wire.specs.Decoder.{Decoder, is_whole, ended, broken}
use Rattle.ftp_server_model.specs.View.{Session, Transfer, View, direct_of, line_limit, seen, with_seen}
use Rattle.ftp_server_model.specs.Keep.{is_overtaken, kept_count, kept_of, lacks}
use Rattle.ftp_server_model.specs.Walk.{refusal_text}
use Rattle.ftp_server_model.specs.declared.session.Keep.{Keep}
use Rattle.ftp_server_model.specs.Replies.{Turn, fixed_reply, reply_octets, said_octets}
use Rattle.ftp_server_model.specs.Endpoint.{forgotten}
use Rattle.ftp_server_model.specs.Act.{decided}
use Rattle.ftp_server_model.specs.declared.room.TheConstants.{FREE_ROOM, OUTPUT_ROOM}
use Rattle.ftp_server_model.specs.declared.heard.HeardLine.{HeardLine}
use Rattle.ftp_server_model.specs.declared.heard.HeardLine.TheVariants.{TooLong, Bad, Asks}
use Rattle.ftp_server_model.specs.declared.reply.FixedReply.{FixedReply}
use Rattle.ftp_server_model.specs.declared.reply.FixedReply.TheVariants as Texts
use Rattle.ftp_server_model.specs.declared.session.Life.{Life}
use Rattle.ftp_server_model.specs.declared.session.Life.TheVariants as Lives
use Rattle.ftp_server_model.specs.declared.session.Pending.TheVariants as Pendings
use Rattle.ftp_server_model.specs.declared.session.Transfer.TheVariants as Transfers
use Rattle.ftp_server_model.specs.declared.session.ServerLink.{ServerLink}
use Rattle.ftp_server_model.specs.declared.session.ServerLink.TheVariants as Data

-- ---- what is said

-- with another session; lines, octets that are owed and context stay
abbrev pub with_session : Session → View → View
with_session session v = record v { session = session }

-- control octets are owed, after those that were
abbrev pub owes : List ℕ → View → View
owes octets v = record v { owed = v.owed ++ octets }

-- what a command makes: another session, and its reply, which is owed
abbrev pub turned : Turn → View → View
turned turn v = owes (said_octets turn.0 turn.1) (with_session turn.0 v)

-- the same with a fixed reply
abbrev pub replied : FixedReply → Session → View → View
replied text session v = owes (reply_octets (fixed_reply text)) (with_session session v)

-- ---- a line is acted on (RFC 959, section 5.4)

-- a download or a listing whose last octet was given is over, and the server closes its data connection (own choice)
abbrev pub given_out : ServerLink Transfer → View → View
given_out (Data.Transferring (Transfers.Download [])) v = replied Texts.Complete (forgotten v.session) v
given_out (Data.Transferring (Transfers.Listing [])) v = replied Texts.Complete (forgotten v.session) v
given_out connection v = v

-- the same, of what stands in a view
abbrev pub completed : View → View
completed v = given_out v.session.connection v

-- a line is acted on. RNFR and REST hold for one line: cleared first, even if it cannot be read
unfoldable pub obeyed : HeardLine (List ℕ) → View → View
obeyed heard v =
    completed (turned (decided v.context heard v.session.pending (record v.session { pending = Pendings.Nothing })) v)

-- a transfer is under way, or a port was asked for
abbrev pub is_connection_busy : ServerLink Transfer → Bool
is_connection_busy (Data.Asked asked) = true
is_connection_busy (Data.Opening transfer way) = true
is_connection_busy (Data.Transferring transfer) = true
is_connection_busy Data.Free = false
is_connection_busy (Data.Active endpoint) = false
is_connection_busy Data.Passive = false
is_connection_busy Data.Ready = false

-- enough of the room for control output is free, so that whatever comes of an octet has room (own choice)
abbrev pub has_room : View → Bool
has_room v = nat_le (length v.owed) (OUTPUT_ROOM - FREE_ROOM)

-- a line may be acted on: no transfer is under way, no port is asked for, and there is room for its reply
abbrev pub is_idle : View → Bool
is_idle v = not (is_connection_busy v.session.connection) && has_room v

-- the line that waits is acted on if it may be, and waits on if not
abbrev pub waited : Option (HeardLine (List ℕ)) → View → View
waited None v = v
waited (Some heard) v = if is_idle v then obeyed heard (record v { waiting = None }) else v

-- the end of each call
abbrev pub later : View → View
later v = waited v.waiting v

-- ---- how an upload ends

-- how a transfer ends: the session that it leaves, and its last reply
abbrev pub Ending : Type 0
Ending = Session × FixedReply

-- the octets kept and these pass a limit of octets
abbrev pub is_over : Names → Keep → Decoder → Session → Bool
is_over path keep d s = is_some (octets_refusal (seen s) path (kept_count keep + length d.content))

-- the file as it is to be: the octets kept of the one that stands there, and then those that came
abbrev pub put_together : Names → Keep → List ℕ → Session → List ℕ
put_together path keep octets s = kept_of keep (octets_or_none (seen s) path) ++ octets

-- Why what came can't be put there now, as the direct run would say: the account may not, fewer octets stand there than are kept, or the
-- map takes no such file there. Since the transfer began others may have changed what stands there.
abbrev pub end_refusal : Names → Keep → List ℕ → Session → Option Refusal
end_refusal path keep octets s =
    or_refused (barred_put (direct_of s) path)
    (or_refused (refused_name (whenever (lacks keep (octets_or_none (seen s) path)) Faults.BadOffset))
    (put_refusal (direct_of s) path (length (put_together path keep octets s))))

-- the file is in the map, at this moment
abbrev pub put_in : (moment : ℕ) → Names → Keep → List ℕ → Session → Session
put_in moment path keep octets s = with_seen (installed (seen s) path (put_together path keep octets s) moment) s

-- what came is installed and answered so, or it is refused and nothing is: past a limit of octets by 552 (own choice)
abbrev pub ends_by : Option Refusal → (moment : ℕ) → Names → Keep → List ℕ → FixedReply → Session → Ending
ends_by (Some why) moment path keep octets text s = (s, refusal_text why)
ends_by None moment path keep octets text s = (put_in moment path keep octets s, text)

abbrev pub installs : (moment : ℕ) → Names → Keep → Decoder → FixedReply → Session → Ending
installs moment path keep d text s = ends_by (end_refusal path keep d.content s) moment path keep d.content text s

-- what was settled of an upload that broke is installed; where others changed what stands at its path since it began, nothing of it is, and the
-- map is as it was
abbrev pub breaks_off : (overtaken : Bool) → (moment : ℕ) → Names → Keep → Decoder → Session → Ending
breaks_off true moment path keep d s = (s, Texts.Broken)
breaks_off false moment path keep d s = installs moment path keep (broken d) Texts.Broken s

-- the data connection broke, or the transfer is aborted: what was settled of an upload is kept, unless it was overtaken (own choice)
abbrev pub at_break : (moment : ℕ) → Transfer → Session → Ending
at_break moment (Transfers.Upload path keep d) s = breaks_off (is_overtaken keep) moment path keep d s
at_break moment Transfers.OverLimit s = (s, Texts.TooMuch)
at_break moment (Transfers.Download rest) s = (s, Texts.Broken)
at_break moment (Transfers.Listing rest) s = (s, Texts.Broken)

-- the client closed the data connection: the file is whole, or it ended early, which counts as broken (RFC 959, section 3.4)
abbrev pub at_end : (moment : ℕ) → Transfer → Session → Ending
at_end moment (Transfers.Upload path keep d) s =
    if is_whole d then installs moment path keep (ended d) Texts.Complete s else at_break moment (Transfers.Upload path keep d) s
at_end moment transfer s = at_break moment transfer s

-- the transfer is over, and its last reply is owed
abbrev pub concluded : Ending → View → View
concluded ending v = replied ending.1 ending.0 v

-- a fault of the wire, a device that failed, or refused memory: 451, the map is as it was, and the data connection is to be closed
abbrev pub faulted : View → View
faulted v = replied Texts.LocalFault (forgotten v.session) v

-- ---- ABOR during a transfer (RFC 959, section 4.1.3); a client that peeks into a file ends its download by it

-- it acts as a break; before the data connection is open, as a refused opening
abbrev pub aborts : ServerLink Transfer → View → View
aborts (Data.Transferring transfer) v = concluded (at_break v.context.moment transfer (forgotten v.session)) v
aborts (Data.Opening transfer way) v = replied Texts.NoConnection (forgotten v.session) v
aborts connection v = v

-- the reply to ABOR itself
abbrev pub abort_said : View → View
abort_said v = replied Texts.AbortDone v.session v

-- the transfer ends, ABOR is answered, and the line that waits is acted on, in this order
abbrev pub aborted : View → View
aborted v = later (abort_said (aborts v.session.connection v))

-- a transfer is under way, its data connection open or still to come
abbrev pub is_transferring : ServerLink Transfer → Bool
is_transferring (Data.Opening transfer way) = true
is_transferring (Data.Transferring transfer) = true
is_transferring connection = false

-- the one command that is taken at once during a transfer (RFC 959, section 4.1.3)
abbrev pub is_abor : HeardLine (List ℕ) → Bool
is_abor (Asks command.Abor) = true
is_abor heard = false

-- it comes during a transfer
abbrev pub is_abort : HeardLine (List ℕ) → View → Bool
is_abort heard v = is_abor heard && is_transferring v.session.connection

-- a whole line: an ABOR is taken at once during a transfer, any other line waits until it may be acted on
abbrev pub heard_line : HeardLine (List ℕ) → View → View
heard_line heard v = if is_abort heard v then aborted v else later (record v { waiting = Some heard })

-- ---- control octets

-- a line as it is read: its command, or why it says none (`ftp_command`)
abbrev pub IsLineRead : List ℕ → HeardLine (List ℕ) → Type 0
IsLineRead text (Asks command) = Says text command
IsLineRead text (Bad fault) = Refuses text fault
IsLineRead text TooLong = ⊥

-- a function that reads lines; there is one only, since no line says two commands or is refused in two ways
abbrev pub Reading : Type 0
Reading = List ℕ → HeardLine (List ℕ)

-- each line is read as it is to be
abbrev pub IsReading : Reading → Type 0
IsReading read = (text : List ℕ) → IsLineRead text (read text)

-- there is one: each text says a command, or is refused
abbrev pub ReadingExists : Type 0
ReadingExists = (read : Reading) × IsReading read

-- two of them read alike, and each reads the line of a command as that command
abbrev pub OneReading : Type 0
OneReading = (read other : Reading) (text : List ℕ) → IsReading read → IsReading other → read text ≡ other text

-- the line of a command is read as that command
abbrev pub ReadsStated : Type 0
ReadsStated = (read : Reading) (command : Command (List ℕ)) → IsReading read → IsTyped command → IsStated command → read (line_of command) ≡ Asks command

-- what an octet settles: a line, one that is too long, or an answer that Telnet octets are owed
abbrev pub heard_event : Reading → NvtEvent → View → View
heard_event read (line text) v = heard_line (read text) v
heard_event read too_long v = heard_line TooLong v
heard_event read (owed answer) v = owes answer v

-- events in order
abbrev pub heard_events : Reading → List NvtEvent → View → View
heard_events read [] v = v
heard_events read (event ∷ events) v = heard_events read events (heard_event read event v)

-- one control octet
unfoldable pub hears_octet : Reading → View → ℕ → View
hears_octet read v octet = heard_events read (ear_out line_limit v.ear octet) (record v { ear = ear_step line_limit v.ear octet })

-- control octets in order
abbrev pub hears : Reading → View → List ℕ → View
hears read v [] = v
hears read v (octet ∷ octets) = hears read (hears_octet read v octet) octets

-- neither QUIT nor the end of the control connection came
abbrev pub is_running : Life → Bool
is_running Lives.Running = true
is_running Lives.Quit = false
is_running Lives.Cut = false

-- a control octet may be taken: none while a line waits or after QUIT, and only where there is room
abbrev pub may_hear : View → Bool
may_hear v = is_running v.session.life && is_none v.waiting && has_room v

-- each of these octets may be taken, once those before it were
abbrev pub MayHear : Reading → View → List ℕ → Type 0
MayHear read v [] = Unit {0}
MayHear read v (octet ∷ octets) = (may_hear v ≡ true) × MayHear read (hears_octet read v octet) octets
