-- While the server's close is wanted, nothing else of the link stands: each call keeps it.
use Rattle.std.proofs.Common.{◌≡◌, ℕ, List, [], ◌∷◌, Bool, true, false, Option, Some, None, refl, sym, ap, subst, ◌∙◌}
use Rattle.std.proofs.lemmas.Bool.{cond_both}
use Rattle.ftp_endpoint.specs.declared.host.Host.{Host}
use Rattle.ftp_wire.specs.Decoder.{Decoder, fault_of, octet_says, read_on}
use Rattle.ftp_ends.specs.Ear.{ear_out, ear_step}
use Rattle.ftp_ends.specs.Link.{same_host}
use Rattle.ftp_mode.specs.Said.{Said, says}
use Rattle.ftp_mode.specs.declared.fault.FrameFault.{FrameFault}
use Rattle.ftp_nvt.specs.Lines.{NvtEvent, line, too_long, owed}
use Rattle.ftp_path.specs.Path.{Names}
use Rattle.ftp_server_model.specs.Calls.{clock_step, clocked, connection_of, control_end, control_step, data_end, data_fault, data_opened, data_refused, end_step, break_step, ends, breaks, given_step, gives_control, gives_data, opened_step, opens, receives, receives_octet, refused_step, refuses, takes_all, takes_data, takes_given, takes_octet, takes_said, with_connection}
use Rattle.ftp_server_model.specs.Endpoint.{disconnected, forgotten, is_standing}
use Rattle.ftp_server_model.specs.Machine.{Reading, abort_said, aborted, aborts, heard_event, heard_events, heard_line, hears, hears_octet, is_abort}
use Rattle.ftp_server_model.specs.View.{Transfer, View, line_limit}
use Rattle.ftp_server_model.specs.declared.heard.HeardLine.{HeardLine}
use Rattle.ftp_server_model.specs.declared.heard.HeardLine.TheVariants.{TooLong}
use Rattle.ftp_server_model.specs.declared.session.Keep.{Keep}
use Rattle.ftp_server_model.specs.declared.session.ServerLink.{ServerLink}
use Rattle.ftp_server_model.specs.declared.session.ServerLink.TheVariants as Data
use Rattle.ftp_server_model.specs.declared.session.Transfer.TheVariants as Transfers
use Rattle.ftp_server_model.specs.declared.session.Way.TheVariants as Ways
use Rattle.laws_settling.specs.Steady.{FarIsApart}
use Rattle.laws_settling.proofs.FarLinesApart.{completed_apart, forgotten_apart, later_apart}
use Rattle.ftp_server_model.proofs.ServerBounds.{break_gone, end_gone}

-- no close is wanted
abbrev Open : View → Type 0
Open v = v.session.closing ≡ false

-- then there is nothing to say
open_apart : (v : View) → Open v → FarIsApart v
open_apart v is closing = absurd (cc)

-- a call that is another where a close is wanted
by_closing : (v : View) (f : ServerLink Transfer → View → View) → FarIsApart v → f Data.Free v ≡ v → (Open v → FarIsApart (f v.session.connection v)) → FarIsApart (f (connection_of v.session) v)
by_closing v f a free found = cond_both v.session.closing _ _ (λ connection. FarIsApart (f connection v)) (λ is. subst FarIsApart (sym free) a) found

-- no connection, so none stands
free_apart : (v : View) → v.session.connection ≡ Data.Free → FarIsApart v
free_apart v is closing = ap is_standing is

-- ---- control octets

-- what ABOR ends
aborts_apart : (connection : ServerLink Transfer) (v : View) → FarIsApart v → FarIsApart (aborts connection v)
aborts_apart (Data.Transferring transfer) v a = free_apart (aborts (Data.Transferring transfer) v) (break_gone v.context.moment transfer (forgotten v.session))
aborts_apart (Data.Opening transfer way) v a = forgotten_apart v.session
aborts_apart connection v a = a

-- ABOR and its reply
aborted_apart : (v : View) → FarIsApart v → FarIsApart (aborted v)
aborted_apart v a = later_apart (abort_said (aborts v.session.connection v)) (aborts_apart v.session.connection v a)

-- a line that was heard
line_apart : (heard : HeardLine (List ℕ)) (v : View) → FarIsApart v → FarIsApart (heard_line heard v)
line_apart heard v a = cond_both (is_abort heard v) _ _ FarIsApart (λ is. aborted_apart v a) (λ is. later_apart (record v { waiting = Some heard }) a)

-- an event of the ear
event_apart : (read : Reading) (event : NvtEvent) (v : View) → FarIsApart v → FarIsApart (heard_event read event v)
event_apart read (line text) v a = line_apart (read text) v a
event_apart read too_long v a = line_apart TooLong v a
event_apart read (owed answer) v a = a

-- events of the ear
events_apart : (read : Reading) (events : List NvtEvent) (v : View) → FarIsApart v → FarIsApart (heard_events read events v)
events_apart read [] v a = a
events_apart read (event ∷ events) v a = events_apart read events (heard_event read event v) (event_apart read event v a)

-- one control octet
octet_apart : (read : Reading) (v : View) (octet : ℕ) → FarIsApart v → FarIsApart (hears_octet read v octet)
unfolding hears_octet
octet_apart read v octet a = events_apart read (ear_out line_limit v.ear octet) (record v { ear = ear_step line_limit v.ear octet }) a

-- control octets
pub hears_apart : (read : Reading) (octets : List ℕ) (v : View) → FarIsApart v → FarIsApart (hears read v octets)
hears_apart read [] v a = a
hears_apart read (octet ∷ octets) v a = hears_apart read octets (hears_octet read v octet) (octet_apart read v octet a)

-- control octets go out
pub gives_control_apart : (count : ℕ) (v : View) → FarIsApart v → FarIsApart (gives_control count v)
unfolding gives_control
gives_control_apart count v a = later_apart (control_step count v) a

-- the clock is set
pub clocked_apart : (moment : ℕ) (v : View) → FarIsApart v → FarIsApart (clocked moment v)
unfolding clocked
clocked_apart moment v a = later_apart (clock_step moment v) a

-- ---- an upload

-- a record of an upload wants no close
said_open : (connection : ServerLink Transfer) (said : Said) (v : View) → (takes_said connection said v).session.closing ≡ v.session.closing
said_open (Data.Transferring (Transfers.Upload path keep d)) (says sign) v = refl
said_open connection said v = refl

-- nor do more of them
all_open : (said : List Said) (v : View) → Open v → Open (takes_all said v)
all_open [] v is = is
all_open (one ∷ said) v is = all_open said (takes_said v.session.connection one v) (said_open v.session.connection one v ∙ is)

-- an octet of an upload, and what it says
takes_octet_apart : (fault : Option FrameFault) (path : Names) (keep : Keep) (d : Decoder) (said : List Said) (v : View) → Open v → FarIsApart (takes_octet fault path keep d said v)
takes_octet_apart None path keep d said v is =
    open_apart (takes_octet None path keep d said v) (all_open said (with_connection (Data.Transferring (Transfers.Upload path keep d)) v) is)
takes_octet_apart (Some fault) path keep d said v is = forgotten_apart v.session

-- an octet of the link
takes_data_apart : (connection : ServerLink Transfer) (octet : ℕ) (v : View) → Open v → FarIsApart (takes_data connection octet v)
takes_data_apart (Data.Transferring (Transfers.Upload path keep d)) octet v is = takes_octet_apart (fault_of (read_on d octet)) path keep (read_on d octet) (octet_says d octet) v is
takes_data_apart connection octet v is = open_apart v is

-- the same, as a call
received_apart : (v : View) (octet : ℕ) → FarIsApart v → FarIsApart (receives_octet v octet)
unfolding receives_octet
received_apart v octet a =
    later_apart (takes_data (connection_of v.session) octet v)
    (by_closing v (λ connection u. takes_data connection octet u) a refl (takes_data_apart v.session.connection octet v))

-- octets of the link
pub receives_apart : (octets : List ℕ) (v : View) → FarIsApart v → FarIsApart (receives v octets)
receives_apart [] v a = a
receives_apart (octet ∷ octets) v a = receives_apart octets (receives_octet v octet) (received_apart v octet a)

-- ---- octets that are given

-- octets that were given want no close
takes_given_open : (connection : ServerLink Transfer) (count : ℕ) (v : View) → (takes_given connection count v).session.closing ≡ v.session.closing
takes_given_open (Data.Transferring (Transfers.Download rest)) count v = refl
takes_given_open connection count v = refl

-- octets go out over the link
pub gives_data_apart : (count : ℕ) (v : View) → FarIsApart v → FarIsApart (gives_data count v)
unfolding gives_data
gives_data_apart count v a =
    later_apart (given_step count v)
    (completed_apart (takes_given (connection_of v.session) count v)
    (by_closing v (λ connection u. takes_given connection count u) a refl
    (λ is. open_apart (takes_given v.session.connection count v) (takes_given_open v.session.connection count v ∙ is))))

-- ---- the data connection opens, ends, or is not had

-- a link that opens
opens_apart : (connection : ServerLink Transfer) (is_peer : Bool) (v : View) → Open v → FarIsApart (opens connection is_peer v)
opens_apart Data.Passive true v is = open_apart (opens Data.Passive true v) is
opens_apart Data.Passive false v is = forgotten_apart v.session
opens_apart (Data.Opening transfer Ways.Accept) true v is = open_apart (opens (Data.Opening transfer Ways.Accept) true v) is
opens_apart (Data.Opening transfer Ways.Accept) false v is = forgotten_apart v.session
opens_apart (Data.Opening transfer (Ways.Connect endpoint)) is_peer v is = open_apart (opens (Data.Opening transfer (Ways.Connect endpoint)) is_peer v) is
opens_apart connection is_peer v is = open_apart v is

-- the same, as a call
pub data_opened_apart : (host : Host) (v : View) → FarIsApart v → FarIsApart (data_opened host v)
unfolding data_opened
data_opened_apart host v a =
    later_apart (opened_step host v)
    (completed_apart (opens (connection_of v.session) (same_host host v.context.peer) v)
    (by_closing v (λ connection u. opens connection (same_host host v.context.peer) u) a refl (opens_apart v.session.connection (same_host host v.context.peer) v)))

-- a link that is refused
refuses_apart : (connection : ServerLink Transfer) (v : View) → Open v → FarIsApart (refuses connection v)
refuses_apart Data.Passive v is = forgotten_apart v.session
refuses_apart (Data.Opening transfer way) v is = forgotten_apart v.session
refuses_apart connection v is = open_apart v is

-- the same, as a call
pub data_refused_apart : (v : View) → FarIsApart v → FarIsApart (data_refused v)
unfolding data_refused
data_refused_apart v a = later_apart (refused_step v) (by_closing v refuses a refl (refuses_apart v.session.connection v))

-- a link that the client has closed
ends_apart : (connection : ServerLink Transfer) (v : View) → Open v → FarIsApart (ends connection v)
ends_apart Data.Ready v is = λ closing. refl
ends_apart (Data.Transferring transfer) v is = free_apart (ends (Data.Transferring transfer) v) (end_gone v.context.moment transfer (disconnected v.session))
ends_apart connection v is = open_apart v is

-- the same, as a call
pub data_end_apart : (v : View) → FarIsApart v → FarIsApart (data_end v)
unfolding data_end
data_end_apart v a = later_apart (end_step v) (by_closing v ends a refl (ends_apart v.session.connection v))

-- a link that breaks
breaks_apart : (connection : ServerLink Transfer) (v : View) → Open v → FarIsApart (breaks connection v)
breaks_apart Data.Ready v is = λ closing. refl
breaks_apart (Data.Transferring transfer) v is = free_apart (breaks (Data.Transferring transfer) v) (break_gone v.context.moment transfer (disconnected v.session))
breaks_apart connection v is = open_apart v is

-- the same, as a call
pub data_fault_apart : (v : View) → FarIsApart v → FarIsApart (data_fault v)
unfolding data_fault
data_fault_apart v a = later_apart (break_step v) (by_closing v breaks a refl (breaks_apart v.session.connection v))

-- the end of the control connection
pub control_end_apart : (v : View) → FarIsApart (control_end v)
unfolding control_end
control_end_apart v closing = refl
