-- The server's other calls: the clock, the data connection, and the end of the control connection; what the server wants at
-- each moment (RFC 959, sections 3.2 to 3.5 and 4.1). Each call is `later` of its step: what it does before a line that waits is
-- acted on.
use Rattle.std.specs.Prelude.{◌≡◌, ℕ, ◌+◌, Bool, true, false, ◌&&◌, List, [], ◌∷◌, length, drop, Option, Some, None, if◌then◌else◌}
use Rattle.ftp_endpoint.specs.declared.host.Host.{Host}
use Rattle.ftp_mode.specs.Said.{Said, says, marker}
use Rattle.ftp_mode.specs.declared.fault.FrameFault.{FrameFault}
use Rattle.ftp_path.specs.Path.{Names}
use Rattle.ftp_tree.specs.Tree.{Table}
use Rattle.ftp_ends.specs.Ear.{quiet}
use Rattle.ftp_wire.specs.Decoder.{Decoder, with_sign, with_said, read_on, octet_says, fault_of}
use Rattle.ftp_ends.specs.Link.{same_host}
use Rattle.ftp_server_model.specs.View.{Accounts, Context, Transfer, Session, View, first_session}
use Rattle.ftp_server_model.specs.Keep.{kept_count}
use Rattle.ftp_server_model.specs.declared.session.Keep.{Keep}
use Rattle.ftp_server_model.specs.Replies.{Turn, fixed_reply, reply_octets, mark_reply}
use Rattle.ftp_server_model.specs.Endpoint.{forgotten, disconnected}
use Rattle.ftp_server_model.specs.Machine.{with_session, owes, turned, replied, completed, has_room, later, is_over, at_end, at_break, concluded, faulted}
use Rattle.ftp_ends.specs.declared.link.Wants.{Wants}
use Rattle.ftp_ends.specs.declared.link.Wants.TheVariants as Want
use Rattle.ftp_server_model.specs.declared.reply.FixedReply.TheVariants as Texts
use Rattle.ftp_server_model.specs.declared.reply.ReplyKind.TheVariants as Replies
use Rattle.ftp_server_model.specs.declared.session.PassiveVerb.TheVariants as Asking
use Rattle.ftp_server_model.specs.declared.session.Life.{Life}
use Rattle.ftp_server_model.specs.declared.session.Life.TheVariants as Lives
use Rattle.ftp_server_model.specs.declared.session.Pending.TheVariants as Pendings
use Rattle.ftp_server_model.specs.declared.session.Way.TheVariants as Ways
use Rattle.ftp_server_model.specs.declared.session.Transfer.TheVariants as Transfers
use Rattle.ftp_server_model.specs.declared.session.ServerLink.{ServerLink}
use Rattle.ftp_server_model.specs.declared.session.ServerLink.TheVariants as Data

-- ---- the start

-- the greeting is owed
abbrev pub start : Table → Accounts → Host → Host → View
start table accounts here peer = record {
  context = record { accounts = accounts; here = here; peer = peer; moment = 0 };
  session = first_session table;
  ear = quiet;
  waiting = None;
  owed = reply_octets (fixed_reply Texts.Ready);
}

-- ---- control output and the clock

-- so many octets were given
abbrev pub control_step : ℕ → View → View
control_step count v = record v { owed = drop count v.owed }

-- the call: this step, and then the line that waits
unfoldable pub gives_control : ℕ → View → View
gives_control count v = later (control_step count v)

-- the moment in force from now on
abbrev pub clock_step : ℕ → View → View
clock_step moment v = record v { context = record v.context { moment = moment } }

-- the call: this step, and then the line that waits
unfoldable pub clocked : ℕ → View → View
clocked moment v = later (clock_step moment v)

-- ---- the data connection as events see it

-- while a close is wanted, events find none
abbrev pub connection_of : Session → ServerLink Transfer
connection_of s = if s.closing then Data.Free else s.connection

-- ---- listening

-- the port that was asked for is told, by the reply of PASV or EPSV (RFC 959, section 4.1.2; RFC 2428, section 3)
abbrev pub listening_turn : ServerLink Transfer → Context → ℕ → Session → Turn
listening_turn (Data.Asked Asking.Pasv) context port s = (record s { connection = Data.Passive }, Replies.Passive (record { host = context.here; port = port }))
listening_turn (Data.Asked Asking.Epsv) context port s = (record s { connection = Data.Passive }, Replies.Extended port)
listening_turn connection context port s = (s, Replies.Nothing)

-- this port is listened at
abbrev pub listening_step : ℕ → View → View
listening_step port v = turned (listening_turn (connection_of v.session) v.context port v.session) v

-- the call: this step, and then the line that waits
unfoldable pub listening : ℕ → View → View
listening port v = later (listening_step port v)

-- PASV or EPSV is answered 425, where no port was had
abbrev pub unheard : ServerLink Transfer → View → View
unheard (Data.Asked asked) v = replied Texts.NoConnection (disconnected v.session) v
unheard connection v = v

-- no port was had
abbrev pub no_port_step : View → View
no_port_step v = unheard (connection_of v.session) v

-- the call: this step, and then the line that waits
unfoldable pub listen_refused : View → View
listen_refused v = later (no_port_step v)

-- ---- the data connection opens, or is refused

-- only the peer of the control connection may open a port; another host's is closed, and the endpoint is forgotten, which is told
-- only after a 150 (own choice)
abbrev pub port_opens : Bool → View → View
port_opens true v = with_session (record v.session { connection = Data.Ready }) v
port_opens false v = with_session (forgotten v.session) v

-- the same after the 150 of a transfer: it goes on, or is answered 425
abbrev pub port_opens_for : Bool → Transfer → View → View
port_opens_for true transfer v = with_session (record v.session { connection = Data.Transferring transfer }) v
port_opens_for false transfer v = replied Texts.NoConnection (forgotten v.session) v

-- what it is for: the next transfer command, or the transfer that waits for it
abbrev pub opens : ServerLink Transfer → Bool → View → View
opens Data.Passive is_peer v = port_opens is_peer v
opens (Data.Opening transfer Ways.Accept) is_peer v = port_opens_for is_peer transfer v
opens (Data.Opening transfer (Ways.Connect endpoint)) is_peer v = port_opens_for true transfer v
opens connection is_peer v = v

-- the data connection is open, and this host is at its other end
abbrev pub opened_step : Host → View → View
opened_step host v = completed (opens (connection_of v.session) (same_host host v.context.peer) v)

-- the call: this step, and then the line that waits
unfoldable pub data_opened : Host → View → View
data_opened host v = later (opened_step host v)

-- it was not had: before a transfer command nothing is said; a port that is listened at is to be closed
abbrev pub refuses : ServerLink Transfer → View → View
refuses Data.Passive v = with_session (forgotten v.session) v
refuses (Data.Opening transfer way) v = replied Texts.NoConnection (forgotten v.session) v
refuses connection v = v

-- the data connection was not had
abbrev pub refused_step : View → View
refused_step v = refuses (connection_of v.session) v

-- the call: this step, and then the line that waits
unfoldable pub data_refused : View → View
data_refused v = later (refused_step v)

-- ---- the octets of an upload

-- an upload with more octets settled, or past a limit: from then on the rest is dropped unread (own choice)
abbrev pub grown : Names → Keep → Decoder → Session → ServerLink Transfer
grown path keep d s = if is_over path keep d s then Data.Transferring Transfers.OverLimit else Data.Transferring (Transfers.Upload path keep d)

-- the data connection is in another state; all else stays
abbrev pub with_connection : ServerLink Transfer → View → View
with_connection connection v = with_session (record v.session { connection = connection }) v

-- a marker is answered by how many octets of the file are held, kept and settled ones (RFC 959, sections 3.5 and 4.2)
abbrev pub marker_answered : List ℕ → ℕ → View → View
marker_answered theirs held v = owes (reply_octets (mark_reply theirs held)) v

-- one thing that the wire says: a sign of the file, or a marker
abbrev pub takes_said : ServerLink Transfer → Said → View → View
takes_said (Data.Transferring (Transfers.Upload path keep d)) (says sign) v = with_connection (grown path keep (with_sign d sign) v.session) v
takes_said (Data.Transferring (Transfers.Upload path keep d)) (marker text) v =
    marker_answered text (kept_count keep + length d.content) (with_connection (Data.Transferring (Transfers.Upload path keep (with_said d (marker text)))) v)
takes_said connection said v = v

-- all that an octet says, in order
abbrev pub takes_all : List Said → View → View
takes_all [] v = v
takes_all (said ∷ more) v = takes_all more (takes_said v.session.connection said v)

-- an octet with which a fault is met ends the transfer, and the map is as it was
abbrev pub takes_octet : Option FrameFault → Names → Keep → Decoder → List Said → View → View
takes_octet None path keep d said v = takes_all said (with_connection (Data.Transferring (Transfers.Upload path keep d)) v)
takes_octet (Some fault) path keep d said v = faulted v

-- an octet of the data connection, while an upload is under way
abbrev pub takes_data : ServerLink Transfer → ℕ → View → View
takes_data (Data.Transferring (Transfers.Upload path keep d)) octet v =
    takes_octet (fault_of (read_on d octet)) path keep (read_on d octet) (octet_says d octet) v
takes_data connection octet v = v

-- one octet of the data connection, and then the line that waits
unfoldable pub receives_octet : View → ℕ → View
receives_octet v octet = later (takes_data (connection_of v.session) octet v)

-- octets of the data connection, one by one
abbrev pub receives : View → List ℕ → View
receives v [] = v
receives v (octet ∷ octets) = receives (receives_octet v octet) octets

-- data octets are taken while an upload is under way
abbrev pub is_upload : ServerLink Transfer → Bool
is_upload (Data.Transferring (Transfers.Upload path keep d)) = true
is_upload (Data.Transferring Transfers.OverLimit) = true
is_upload connection = false

-- a data octet may be taken: an upload is under way, and its markers have room to be answered
abbrev pub may_receive : View → Bool
may_receive v = is_upload (connection_of v.session) && has_room v

-- each of these octets may be taken, once those before it were
abbrev pub MayReceive : View → List ℕ → Type 0
MayReceive v [] = Unit {0}
MayReceive v (octet ∷ octets) = (may_receive v ≡ true) × MayReceive (receives_octet v octet) octets

-- ---- the octets of a download or a listing

-- what is still to be given
abbrev pub given_by : ServerLink Transfer → List ℕ
given_by (Data.Transferring (Transfers.Download rest)) = rest
given_by (Data.Transferring (Transfers.Listing rest)) = rest
given_by connection = []

-- the data octets that are still to be given
abbrev pub to_give : View → List ℕ
to_give v = given_by (connection_of v.session)

-- so many octets were given
abbrev pub takes_given : ServerLink Transfer → ℕ → View → View
takes_given (Data.Transferring (Transfers.Download rest)) count v = with_connection (Data.Transferring (Transfers.Download (drop count rest))) v
takes_given (Data.Transferring (Transfers.Listing rest)) count v = with_connection (Data.Transferring (Transfers.Listing (drop count rest))) v
takes_given connection count v = v

-- the same; with the last the data connection is to be closed, and the 226 is owed
abbrev pub given_step : ℕ → View → View
given_step count v = completed (takes_given (connection_of v.session) count v)

-- the call: this step, and then the line that waits
unfoldable pub gives_data : ℕ → View → View
gives_data count v = later (given_step count v)

-- ---- the data connection ends, breaks, or is closed

-- the client closed it; before a transfer command the endpoint is forgotten and nothing is said (own choice)
abbrev pub ends : ServerLink Transfer → View → View
ends Data.Ready v = with_session (disconnected v.session) v
ends (Data.Transferring transfer) v = concluded (at_end v.context.moment transfer (disconnected v.session)) v
ends connection v = v

-- what that means for the transfer that it carried
abbrev pub end_step : View → View
end_step v = ends (connection_of v.session) v

-- the call: this step, and then the line that waits
unfoldable pub data_end : View → View
data_end v = later (end_step v)

-- it broke
abbrev pub breaks : ServerLink Transfer → View → View
breaks Data.Ready v = with_session (disconnected v.session) v
breaks (Data.Transferring transfer) v = concluded (at_break v.context.moment transfer (disconnected v.session)) v
breaks connection v = v

-- what that means for the transfer that it carried
abbrev pub break_step : View → View
break_step v = breaks (connection_of v.session) v

-- the call: this step, and then the line that waits
unfoldable pub data_fault : View → View
data_fault v = later (break_step v)

-- a close that was wanted is done
abbrev pub close_step : View → View
close_step v = with_session (record v.session { closing = false }) v

-- the call: this step, and then the line that waits
unfoldable pub data_closed : View → View
data_closed v = later (close_step v)

-- ---- the control connection ends: a transfer under way is dropped, with the map as it was (own choice)

-- the session after that: the data connection is forgotten, and nothing is heard any more
abbrev pub session_cut : Session → Session
session_cut s = record (forgotten s) { pending = Pendings.Nothing; life = Lives.Cut }

-- what waits and what is owed is dropped, so nothing comes later
unfoldable pub control_end : View → View
control_end v = record v { session = session_cut v.session; waiting = None; owed = [] }

-- ---- what the server wants

-- what each state of the data connection asks of who owns it
abbrev pub wants_of : ServerLink Transfer → Wants
wants_of Data.Free = Want.Nothing
wants_of (Data.Asked asked) = Want.Listen
wants_of (Data.Active endpoint) = Want.Nothing
wants_of Data.Passive = Want.Accept
wants_of Data.Ready = Want.Nothing
wants_of (Data.Opening transfer (Ways.Connect endpoint)) = Want.Connect endpoint
wants_of (Data.Opening transfer Ways.Accept) = Want.Accept
wants_of (Data.Transferring (Transfers.Upload path keep d)) = Want.Receive
wants_of (Data.Transferring Transfers.OverLimit) = Want.Receive
wants_of (Data.Transferring (Transfers.Download rest)) = Want.Send
wants_of (Data.Transferring (Transfers.Listing rest)) = Want.Send

-- done with the control connection: it ended, or the reply to QUIT is out
abbrev pub is_done : Life → List ℕ → Bool
is_done Lives.Running owed = false
is_done Lives.Quit [] = true
is_done Lives.Quit (octet ∷ octets) = false
is_done Lives.Cut owed = true

-- a close comes before all else, then the end of the control connection, then the data connection
abbrev pub wants : View → Wants
wants v =
    if v.session.closing then Want.CloseData
    else (if is_done v.session.life v.owed then Want.CloseAll else wants_of v.session.connection)
