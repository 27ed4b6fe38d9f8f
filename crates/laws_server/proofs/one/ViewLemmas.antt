-- What each call leaves short: a lemma for each definition of `Machine` and `Calls` of `ftp_server_model`.
use Rattle.std.proofs.Common.{◌≡◌, ℕ, ◌+◌, ◌≤◌, List, [], ◌∷◌, Bool, true, false, Option, Some, None, refl, subst, arith, length}
use Rattle.std.proofs.lemmas.Bool.{cond_both}
use Rattle.ftp_endpoint.specs.declared.host.Host.{Host}
use Rattle.ftp_wire.specs.Decoder.{Decoder, with_sign, read_on, octet_says, fault_of}
use Rattle.ftp_ends.specs.Ear.{ear_out, ear_step}
use Rattle.ftp_ends.specs.Link.{same_host}
use Rattle.ftp_mode.specs.Said.{Said, says, marker}
use Rattle.ftp_mode.specs.declared.fault.FrameFault.{FrameFault}
use Rattle.ftp_nvt.specs.Lines.{NvtEvent, line, too_long, owed}
use Rattle.ftp_path.specs.Path.{Names}
use Rattle.ftp_server_model.specs.Act.{decided}
use Rattle.ftp_server_model.specs.Calls.{connection_of, listening_turn, unheard, port_opens_for, opens, refuses, takes_given, ends, breaks, control_end, clock_step, control_step, listening_step, no_port_step, opened_step, refused_step, end_step, break_step, close_step, given_step, grown, with_connection, takes_said, takes_all, takes_octet, takes_data, receives_octet}
use Rattle.ftp_server_model.specs.Endpoint.{forgotten, disconnected}
use Rattle.ftp_server_model.specs.Held.{waiting_len}
use Rattle.ftp_server_model.specs.Keep.{kept_count}
use Rattle.ftp_server_model.specs.Machine.{Reading, IsReading, given_out, completed, obeyed, waited, later, is_idle, is_abort, turned, replied, is_over, aborts, abort_said, aborted, heard_line, heard_event, heard_events, hears_octet, with_session}
use Rattle.ftp_server_model.specs.Replies.{Turn}
use Rattle.ftp_server_model.specs.View.{Session, Transfer, View, line_limit, seen}
use Rattle.ftp_server_model.specs.declared.heard.HeardLine.{HeardLine}
use Rattle.ftp_server_model.specs.declared.heard.HeardLine.TheVariants.{TooLong}
use Rattle.ftp_server_model.specs.declared.reply.FixedReply.{FixedReply}
use Rattle.ftp_server_model.specs.declared.reply.FixedReply.TheVariants as Texts
use Rattle.ftp_server_model.specs.declared.session.PassiveVerb.TheVariants as Asking
use Rattle.ftp_server_model.specs.declared.session.Pending.TheVariants as Pendings
use Rattle.ftp_server_model.specs.declared.session.Way.TheVariants as Ways
use Rattle.ftp_server_model.specs.declared.session.ServerLink.{ServerLink}
use Rattle.ftp_server_model.specs.declared.session.ServerLink.TheVariants as Data
use Rattle.ftp_server_model.specs.declared.session.Keep.{Keep}
use Rattle.ftp_server_model.specs.declared.session.Transfer.TheVariants as Transfers
use Rattle.laws_server.specs.one.Small.{IsShortConnection, IsShortSession, IsShort}
use Rattle.laws_server.proofs.one.FileLemmas.{not_over}
use Rattle.ftp_ends.proofs.ReadLemmas.{AreShortEvents, IsShortEvent, ear_says, ear_short}
use Rattle.laws_server.proofs.one.SaidLemmas.{heard_short}
use Rattle.laws_server.proofs.one.SessionLemmas.{break_short, connected_short, decided_short, disconnected_short, end_short, forgotten_short}

-- ---- what is said

pub replied_short : (text : FixedReply) (session : Session) (v : View) → IsShortSession session → IsShort v → IsShort (replied text session v)
replied_short text session v short k = record { session = short; reading = k.reading; waiting = k.waiting }

-- a forgotten endpoint, and a reply
pub forgets_with : (text : FixedReply) (v : View) → IsShort v → IsShort (replied text (forgotten v.session) v)
forgets_with text v k = replied_short text (forgotten v.session) v (forgotten_short v.session k.session) k

-- ---- a line is acted on

given_out_short : (connection : ServerLink Transfer) (v : View) → IsShort v → IsShort (given_out connection v)
given_out_short (Data.Transferring (Transfers.Download [])) v k = forgets_with Texts.Complete v k
given_out_short (Data.Transferring (Transfers.Listing [])) v k = forgets_with Texts.Complete v k
given_out_short (Data.Transferring (Transfers.Download (octet ∷ rest))) v k = k
given_out_short (Data.Transferring (Transfers.Listing (octet ∷ rest))) v k = k
given_out_short (Data.Transferring (Transfers.Upload path keep d)) v k = k
given_out_short (Data.Transferring Transfers.OverLimit) v k = k
given_out_short (Data.Asked asked) v k = k
given_out_short (Data.Opening transfer way) v k = k
given_out_short Data.Free v k = k
given_out_short (Data.Active endpoint) v k = k
given_out_short Data.Passive v k = k
given_out_short Data.Ready v k = k

pub completed_short : (v : View) → IsShort v → IsShort (completed v)
completed_short v k = given_out_short v.session.connection v k

obeyed_short : (heard : HeardLine (List ℕ)) (v : View) → IsShort v → IsShort (obeyed heard v)
unfolding obeyed
obeyed_short heard v k =
    let s : Session = record v.session { pending = Pendings.Nothing } in
    let turn : Turn = decided v.context heard v.session.pending s in
    completed_short (turned turn v)
    (record { session = decided_short v.context heard v.session.pending s (record { files = k.session.files; connection = k.session.connection }); reading = k.reading; waiting = k.waiting })

waited_short : (waiting : Option (HeardLine (List ℕ))) (v : View) → IsShort v → IsShort (waited waiting v)
waited_short None v k = k
waited_short (Some heard) v k =
    let before : View = record v { waiting = None } in
    cond_both (is_idle v) (obeyed heard before) v IsShort
    (λ idle. obeyed_short heard before (record { session = k.session; reading = k.reading; waiting = omega arith })) (λ busy. k)

pub later_short : (v : View) → IsShort v → IsShort (later v)
later_short v k = waited_short v.waiting v k

-- ---- the calls of the data connection

pub by_connection : (v : View) (f : ServerLink Transfer → View) → IsShort (f Data.Free) → IsShort (f v.session.connection) → IsShort (f (connection_of v.session))
by_connection v f none one = cond_both v.session.closing Data.Free v.session.connection (λ connection. IsShort (f connection)) (λ is. none) (λ is. one)

-- another state of the data connection
pub moves_short : (connection : ServerLink Transfer) (v : View) → IsShortConnection connection → IsShort v → IsShort (with_connection connection v)
moves_short connection v short k =
    record { session = connected_short connection v.session short k.session; reading = k.reading; waiting = k.waiting }

listened_short : (port : ℕ) (connection : ServerLink Transfer) (v : View) → IsShort v → IsShort (turned (listening_turn connection v.context port v.session) v)
listened_short port (Data.Asked Asking.Pasv) v k = record { session = connected_short Data.Passive v.session tt k.session; reading = k.reading; waiting = k.waiting }
listened_short port (Data.Asked Asking.Epsv) v k = record { session = connected_short Data.Passive v.session tt k.session; reading = k.reading; waiting = k.waiting }
listened_short port Data.Free v k = record { session = k.session; reading = k.reading; waiting = k.waiting }
listened_short port (Data.Active endpoint) v k = record { session = k.session; reading = k.reading; waiting = k.waiting }
listened_short port Data.Passive v k = record { session = k.session; reading = k.reading; waiting = k.waiting }
listened_short port (Data.Opening transfer way) v k = record { session = k.session; reading = k.reading; waiting = k.waiting }
listened_short port Data.Ready v k = record { session = k.session; reading = k.reading; waiting = k.waiting }
listened_short port (Data.Transferring transfer) v k = record { session = k.session; reading = k.reading; waiting = k.waiting }

unheard_short : (connection : ServerLink Transfer) (v : View) → IsShort v → IsShort (unheard connection v)
unheard_short (Data.Asked asked) v k = replied_short Texts.NoConnection (disconnected v.session) v (disconnected_short v.session k.session) k
unheard_short Data.Free v k = k
unheard_short (Data.Active endpoint) v k = k
unheard_short Data.Passive v k = k
unheard_short (Data.Opening transfer way) v k = k
unheard_short Data.Ready v k = k
unheard_short (Data.Transferring transfer) v k = k

leaves_short : (session : Session) (v : View) → IsShortSession session → IsShort v → IsShort (with_session session v)
leaves_short session v short k = record { session = short; reading = k.reading; waiting = k.waiting }

opened_for : (is_peer : Bool) (transfer : Transfer) (v : View) → IsShortConnection (Data.Transferring transfer) → IsShort v → IsShort (port_opens_for is_peer transfer v)
opened_for true transfer v short k = moves_short (Data.Transferring transfer) v short k
opened_for false transfer v short k = forgets_with Texts.NoConnection v k

opens_short : (connection : ServerLink Transfer) (is_peer : Bool) (v : View) → v.session.connection ≡ connection → IsShort v → IsShort (opens connection is_peer v)
opens_short Data.Passive true v is k = moves_short Data.Ready v tt k
opens_short Data.Passive false v is k = leaves_short (forgotten v.session) v (forgotten_short v.session k.session) k
opens_short (Data.Opening transfer Ways.Accept) is_peer v is k = opened_for is_peer transfer v (subst IsShortConnection is k.session.connection) k
opens_short (Data.Opening transfer (Ways.Connect endpoint)) is_peer v is k = opened_for true transfer v (subst IsShortConnection is k.session.connection) k
opens_short Data.Free is_peer v is k = k
opens_short (Data.Active endpoint) is_peer v is k = k
opens_short (Data.Asked asked) is_peer v is k = k
opens_short Data.Ready is_peer v is k = k
opens_short (Data.Transferring transfer) is_peer v is k = k

refuses_short : (connection : ServerLink Transfer) (v : View) → IsShort v → IsShort (refuses connection v)
refuses_short Data.Passive v k = leaves_short (forgotten v.session) v (forgotten_short v.session k.session) k
refuses_short (Data.Opening transfer way) v k = forgets_with Texts.NoConnection v k
refuses_short Data.Free v k = k
refuses_short (Data.Active endpoint) v k = k
refuses_short (Data.Asked asked) v k = k
refuses_short Data.Ready v k = k
refuses_short (Data.Transferring transfer) v k = k

ends_short : (connection : ServerLink Transfer) (v : View) → IsShort v → IsShort (ends connection v)
ends_short Data.Ready v k = leaves_short (disconnected v.session) v (disconnected_short v.session k.session) k
ends_short (Data.Transferring transfer) v k =
    record { session = end_short v.context.moment transfer (disconnected v.session) (disconnected_short v.session k.session); reading = k.reading; waiting = k.waiting }
ends_short Data.Free v k = k
ends_short (Data.Active endpoint) v k = k
ends_short (Data.Asked asked) v k = k
ends_short Data.Passive v k = k
ends_short (Data.Opening transfer way) v k = k

breaks_short : (connection : ServerLink Transfer) (v : View) → IsShort v → IsShort (breaks connection v)
breaks_short Data.Ready v k = leaves_short (disconnected v.session) v (disconnected_short v.session k.session) k
breaks_short (Data.Transferring transfer) v k =
    record { session = break_short v.context.moment transfer (disconnected v.session) (disconnected_short v.session k.session); reading = k.reading; waiting = k.waiting }
breaks_short Data.Free v k = k
breaks_short (Data.Active endpoint) v k = k
breaks_short (Data.Asked asked) v k = k
breaks_short Data.Passive v k = k
breaks_short (Data.Opening transfer way) v k = k

takes_given_short : (count : ℕ) (connection : ServerLink Transfer) (v : View) → IsShort v → IsShort (takes_given connection count v)
takes_given_short count (Data.Transferring (Transfers.Download rest)) v k = moves_short (Data.Transferring (Transfers.Download _)) v tt k
takes_given_short count (Data.Transferring (Transfers.Listing rest)) v k = moves_short (Data.Transferring (Transfers.Listing _)) v tt k
takes_given_short count (Data.Transferring (Transfers.Upload path keep d)) v k = k
takes_given_short count (Data.Transferring Transfers.OverLimit) v k = k
takes_given_short count Data.Free v k = k
takes_given_short count (Data.Active endpoint) v k = k
takes_given_short count (Data.Asked asked) v k = k
takes_given_short count Data.Passive v k = k
takes_given_short count (Data.Opening transfer way) v k = k
takes_given_short count Data.Ready v k = k

-- ---- the octets of an upload

grown_short : (path : Names) (keep : Keep) (d : Decoder) (s : Session) → IsShortConnection (grown path keep d s)
grown_short path keep d s =
    cond_both (is_over path keep d s) (Data.Transferring Transfers.OverLimit) (Data.Transferring (Transfers.Upload path keep d)) IsShortConnection (λ is. tt)
    (λ is. not_over (seen s) path (kept_count keep + length d.content) is)

pub said_short : (connection : ServerLink Transfer) (said : Said) (v : View) → v.session.connection ≡ connection → IsShort v → IsShort (takes_said connection said v)
said_short (Data.Transferring (Transfers.Upload path keep d)) (says sign) v is k = moves_short (grown path keep (with_sign d sign) v.session) v (grown_short path keep (with_sign d sign) v.session) k
said_short (Data.Transferring (Transfers.Upload path keep d)) (marker text) v is k =
    let same = subst IsShortConnection is k.session.connection in
    record { session = connected_short (Data.Transferring (Transfers.Upload path keep d)) v.session same k.session; reading = k.reading; waiting = k.waiting }
said_short (Data.Transferring Transfers.OverLimit) said v is k = k
said_short (Data.Transferring (Transfers.Download rest)) said v is k = k
said_short (Data.Transferring (Transfers.Listing rest)) said v is k = k
said_short Data.Free said v is k = k
said_short (Data.Active endpoint) said v is k = k
said_short (Data.Asked asked) said v is k = k
said_short Data.Passive said v is k = k
said_short (Data.Opening transfer way) said v is k = k
said_short Data.Ready said v is k = k

pub all_short : (said : List Said) (v : View) → IsShort v → IsShort (takes_all said v)
all_short [] v k = k
all_short (said ∷ more) v k = all_short more (takes_said v.session.connection said v) (said_short v.session.connection said v refl k)

octet_short : (fault : Option FrameFault) (path : Names) (keep : Keep) (d : Decoder) (said : List Said) (v : View) → IsShortConnection (Data.Transferring (Transfers.Upload path keep d)) → IsShort v
    → IsShort (takes_octet fault path keep d said v)
octet_short None path keep d said v short k = all_short said (with_connection (Data.Transferring (Transfers.Upload path keep d)) v) (moves_short _ v short k)
octet_short (Some fault) path keep d said v short k = forgets_with Texts.LocalFault v k

data_short : (connection : ServerLink Transfer) (octet : ℕ) (v : View) → v.session.connection ≡ connection → IsShort v → IsShort (takes_data connection octet v)
data_short (Data.Transferring (Transfers.Upload path keep d)) octet v is k =
    octet_short (fault_of (read_on d octet)) path keep (read_on d octet) (octet_says d octet) v (subst IsShortConnection is k.session.connection) k
data_short (Data.Transferring Transfers.OverLimit) octet v is k = k
data_short (Data.Transferring (Transfers.Download rest)) octet v is k = k
data_short (Data.Transferring (Transfers.Listing rest)) octet v is k = k
data_short Data.Free octet v is k = k
data_short (Data.Active endpoint) octet v is k = k
data_short (Data.Asked asked) octet v is k = k
data_short Data.Passive octet v is k = k
data_short (Data.Opening transfer way) octet v is k = k
data_short Data.Ready octet v is k = k

pub receives_short : (v : View) (octet : ℕ) → IsShort v → IsShort (receives_octet v octet)
unfolding receives_octet
receives_short v octet k =
    later_short (takes_data (connection_of v.session) octet v) (by_connection v (λ connection. takes_data connection octet v) k (data_short v.session.connection octet v refl k))

-- ---- control octets

aborts_short : (connection : ServerLink Transfer) (v : View) → IsShort v → IsShort (aborts connection v)
aborts_short (Data.Transferring transfer) v k =
    record { session = break_short v.context.moment transfer (forgotten v.session) (forgotten_short v.session k.session); reading = k.reading; waiting = k.waiting }
aborts_short (Data.Opening transfer way) v k = forgets_with Texts.NoConnection v k
aborts_short Data.Free v k = k
aborts_short (Data.Active endpoint) v k = k
aborts_short (Data.Asked asked) v k = k
aborts_short Data.Passive v k = k
aborts_short Data.Ready v k = k

aborted_short : (v : View) → IsShort v → IsShort (aborted v)
aborted_short v k =
    let one = aborts_short v.session.connection v k in
    later_short (abort_said (aborts v.session.connection v)) (replied_short Texts.AbortDone (aborts v.session.connection v).session (aborts v.session.connection v) one.session one)

pub line_short : (heard : HeardLine (List ℕ)) (v : View) → waiting_len (Some heard) ≤ 2048 → IsShort v → IsShort (heard_line heard v)
line_short heard v few k =
    let waits : View = record v { waiting = Some heard } in
    cond_both (is_abort heard v) (aborted v) (later waits) IsShort (λ is. aborted_short v k)
    (λ is. later_short waits (record { session = k.session; reading = k.reading; waiting = few }))

event_short : (read : Reading) (event : NvtEvent) (v : View) → IsReading read → IsShortEvent line_limit event → IsShort v → IsShort (heard_event read event v)
event_short read (line text) v reading short k = line_short (read text) v (heard_short text (read text) short (reading text)) k
event_short read too_long v reading short k = line_short TooLong v (omega arith) k
event_short read (owed answer) v reading short k = record { session = k.session; reading = k.reading; waiting = k.waiting }

events_short : (read : Reading) (events : List NvtEvent) (v : View) → IsReading read → AreShortEvents line_limit events → IsShort v → IsShort (heard_events read events v)
events_short read [] v reading short k = k
events_short read (event ∷ events) v reading short k = events_short read events (heard_event read event v) reading short.1 (event_short read event v reading short.0 k)

pub hears_short : (read : Reading) (v : View) (octet : ℕ) → IsReading read → IsShort v → IsShort (hears_octet read v octet)
unfolding hears_octet
hears_short read v octet reading k =
    events_short read (ear_out line_limit v.ear octet) (record v { ear = ear_step line_limit v.ear octet }) reading (ear_says line_limit v.ear octet k.reading)
    (record { session = k.session; reading = ear_short line_limit v.ear octet k.reading; waiting = k.waiting })

-- ---- the steps of the other calls

pub clock_short : (moment : ℕ) (v : View) → IsShort v → IsShort (clock_step moment v)
clock_short moment v k = record { session = k.session; reading = k.reading; waiting = k.waiting }

pub control_short : (count : ℕ) (v : View) → IsShort v → IsShort (control_step count v)
control_short count v k = record { session = k.session; reading = k.reading; waiting = k.waiting }

pub close_short : (v : View) → IsShort v → IsShort (close_step v)
close_short v k = record { session = record { files = k.session.files; connection = k.session.connection }; reading = k.reading; waiting = k.waiting }

pub control_end_short : (v : View) → IsShort v → IsShort (control_end v)
unfolding control_end
control_end_short v k = record { session = record { files = k.session.files; connection = tt }; reading = k.reading; waiting = omega arith }

pub listening_short : (port : ℕ) (v : View) → IsShort v → IsShort (listening_step port v)
listening_short port v k =
    by_connection v (λ connection. turned (listening_turn connection v.context port v.session) v) (record { session = k.session; reading = k.reading; waiting = k.waiting }) (listened_short port v.session.connection v k)

pub no_port_short : (v : View) → IsShort v → IsShort (no_port_step v)
no_port_short v k = by_connection v (λ connection. unheard connection v) k (unheard_short v.session.connection v k)

pub opened_short : (host : Host) (v : View) → IsShort v → IsShort (opened_step host v)
opened_short host v k =
    completed_short (opens (connection_of v.session) (same_host host v.context.peer) v)
    (by_connection v (λ connection. opens connection (same_host host v.context.peer) v) k (opens_short v.session.connection (same_host host v.context.peer) v refl k))

pub refused_short : (v : View) → IsShort v → IsShort (refused_step v)
refused_short v k = by_connection v (λ connection. refuses connection v) k (refuses_short v.session.connection v k)

pub given_by_short : (count : ℕ) (v : View) → IsShort v → IsShort (takes_given (connection_of v.session) count v)
given_by_short count v k = by_connection v (λ connection. takes_given connection count v) k (takes_given_short count v.session.connection v k)

pub given_short : (count : ℕ) (v : View) → IsShort v → IsShort (given_step count v)
given_short count v k = completed_short (takes_given (connection_of v.session) count v) (given_by_short count v k)

pub end_step_short : (v : View) → IsShort v → IsShort (end_step v)
end_step_short v k = by_connection v (λ connection. ends connection v) k (ends_short v.session.connection v k)

pub break_step_short : (v : View) → IsShort v → IsShort (break_step v)
break_step_short v k = by_connection v (λ connection. breaks connection v) k (breaks_short v.session.connection v k)
