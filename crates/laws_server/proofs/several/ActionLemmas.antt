-- What a call is made of: a lemma for each definition of `Machine` and `Calls` of `ftp_server_model`.
use Rattle.std.proofs.Common.{◌≡◌, ℕ, List, [], ◌∷◌, ◌++◌, Bool, true, false, Option, Some, None, refl, sym, subst, ◌∙◌, take}
use Rattle.std.specs.Prelude.{slice_get}
use Rattle.std.proofs.lemmas.Bool.{cond_both}
use Rattle.ftp_ends.specs.Ear.{ear_out, ear_step}
use Rattle.ftp_ends.specs.Link.{same_host}
use Rattle.ftp_nvt.specs.Lines.{NvtEvent, line, too_long, owed}
use Rattle.ftp_mode.specs.Said.{Said, says, marker}
use Rattle.ftp_mode.specs.declared.fault.FrameFault.{FrameFault}
use Rattle.ftp_path.specs.Path.{Names}
use Rattle.ftp_wire.specs.Decoder.{Decoder, fault_of, octet_says, read_on, with_said, with_sign}
use Rattle.ftp_server_model.specs.Calls.{connection_of, listening_turn, unheard, port_opens, port_opens_for, opens, refuses, takes_given, ends, breaks, control_end, clock_step, control_step, listening_step, no_port_step, opened_step, refused_step}
use Rattle.ftp_server_model.specs.Calls.{end_step, break_step, close_step, given_step, with_connection, takes_all, takes_data, takes_octet, takes_said, grown, is_upload, receives_octet, receives, to_give, clocked, gives_control, listening, listen_refused, data_opened, data_refused, gives_data}
use Rattle.ftp_server_model.specs.Calls.{data_end, data_fault, data_closed}
use Rattle.ftp_server_model.specs.Endpoint.{forgotten, disconnected}
use Rattle.ftp_server_model.specs.Machine.{Reading, given_out, completed, obeyed, waited, later, is_idle, is_abort, turned, abort_said, aborted, aborts, heard_line, heard_event, heard_events, hears, hears_octet}
use Rattle.ftp_server_model.specs.Play.{Cue, Clock, Hear, ControlOut, ControlEnd, Listening, DataOpened, DataHear, DataOut, ListenRefused, DataRefused, DataEnd, DataFault, DataClosed, AsksWants, call, most_given, most_heard, most_received}
use Rattle.ftp_server_model.specs.View.{Transfer, View, line_limit}
use Rattle.ftp_server_model.specs.declared.heard.HeardLine.{HeardLine}
use Rattle.ftp_server_model.specs.declared.heard.HeardLine.TheVariants.{TooLong}
use Rattle.ftp_server_model.specs.declared.session.Keep.{Keep}
use Rattle.ftp_server_model.specs.declared.session.PassiveVerb.TheVariants as Asking
use Rattle.ftp_server_model.specs.declared.session.Way.TheVariants as Ways
use Rattle.ftp_server_model.specs.declared.session.ServerLink.{ServerLink}
use Rattle.ftp_server_model.specs.declared.session.ServerLink.TheVariants as Data
use Rattle.ftp_server_model.specs.declared.session.Transfer.TheVariants as Transfers
use Rattle.laws_server.specs.several.Actions.{AreActions, CallsAreActions, SessionAction, Actions, IsSame, TurnsAreActions, acts as acted, ends as ended, breaks as broke, rests}
use Rattle.laws_server.specs.several.Several.{Slot, Several, Turn, lent_to}
use Rattle.laws_server.proofs.several.OwnLemmas.{maps_follow}

-- ---- actions in order

none : (v : View) → Actions v v
none v = ([], refl)

one : (v w : View) → SessionAction v w → Actions v w
one v w action = (w ∷ [], (action, refl))

joined : (us ws : List View) (u v w : View) → AreActions us u v → AreActions ws v w → AreActions (us ++ ws) u w
joined [] ws u v w is rest = subst (λ (x : View). AreActions ws x w) is rest
joined (m ∷ us) ws u v w first rest = (first.0, joined us ws m v w first.1 rest)

-- these, and then those
then : (u v w : View) → Actions u v → Actions v w → Actions u w
then u v w first rest = (first.0 ++ rest.0, joined first.0 rest.0 u v w first.1 rest.1)

-- the direct run sees nothing of it
still : (v w : View) → IsSame v.session w.session → Actions v w
still v w same = one v w (rests same)

-- ---- a line is acted on

pub same_given_out : (connection : ServerLink Transfer) (v : View) → IsSame v.session (given_out connection v).session
same_given_out (Data.Transferring (Transfers.Download [])) v = refl
same_given_out (Data.Transferring (Transfers.Listing [])) v = refl
same_given_out (Data.Transferring (Transfers.Download (octet ∷ rest))) v = refl
same_given_out (Data.Transferring (Transfers.Listing (octet ∷ rest))) v = refl
same_given_out (Data.Transferring (Transfers.Upload path keep d)) v = refl
same_given_out (Data.Transferring Transfers.OverLimit) v = refl
same_given_out (Data.Asked asked) v = refl
same_given_out (Data.Opening transfer way) v = refl
same_given_out Data.Free v = refl
same_given_out (Data.Active endpoint) v = refl
same_given_out Data.Passive v = refl
same_given_out Data.Ready v = refl

waited_actions : (waiting : Option (HeardLine (List ℕ))) (v : View) → Actions v (waited waiting v)
waited_actions None v = none v
waited_actions (Some heard) v =
    let before : View = record v { waiting = None } in
    cond_both (is_idle v) (obeyed heard before) v (Actions v)
    (λ idle. then v before (obeyed heard before) (still v before refl) (one before (obeyed heard before) (acted heard idle refl))) (λ busy. none v)

later_actions : (v : View) → Actions v (later v)
later_actions v = waited_actions v.waiting v

-- a step that the direct run sees nothing of, and then the line that waits
by_step : (v w : View) → IsSame v.session w.session → Actions v (later w)
by_step v w same = then v w (later w) (still v w same) (later_actions w)

-- ---- control octets

aborts_actions : (connection : ServerLink Transfer) (v : View) → v.session.connection ≡ connection → Actions v (aborts connection v)
aborts_actions (Data.Transferring transfer) v is = one v (aborts (Data.Transferring transfer) v) (broke transfer (forgotten v.session) is refl refl)
aborts_actions (Data.Opening transfer way) v is = still v (aborts (Data.Opening transfer way) v) refl
aborts_actions Data.Free v is = none v
aborts_actions (Data.Active endpoint) v is = none v
aborts_actions (Data.Asked asked) v is = none v
aborts_actions Data.Passive v is = none v
aborts_actions Data.Ready v is = none v

aborted_actions : (v : View) → Actions v (aborted v)
aborted_actions v =
    let w : View = aborts v.session.connection v in
    then v w (aborted v) (aborts_actions v.session.connection v refl) (by_step w (abort_said w) refl)

line_actions : (heard : HeardLine (List ℕ)) (v : View) → Actions v (heard_line heard v)
line_actions heard v =
    cond_both (is_abort heard v) (aborted v) (later (record v { waiting = Some heard })) (Actions v)
    (λ is. aborted_actions v) (λ is. by_step v (record v { waiting = Some heard }) refl)

event_actions : (read : Reading) (event : NvtEvent) (v : View) → Actions v (heard_event read event v)
event_actions read (line text) v = line_actions (read text) v
event_actions read too_long v = line_actions TooLong v
event_actions read (owed answer) v = still v (heard_event read (owed answer) v) refl

events_actions : (read : Reading) (events : List NvtEvent) (v : View) → Actions v (heard_events read events v)
events_actions read [] v = none v
events_actions read (event ∷ events) v =
    let w : View = heard_event read event v in
    then v w (heard_events read events w) (event_actions read event v) (events_actions read events w)

octet_actions : (read : Reading) (v : View) (octet : ℕ) → Actions v (hears_octet read v octet)
unfolding hears_octet
octet_actions read v octet =
    let w : View = record v { ear = ear_step line_limit v.ear octet } in
    then v w (heard_events read (ear_out line_limit v.ear octet) w) (still v w refl) (events_actions read (ear_out line_limit v.ear octet) w)

hears_actions : (read : Reading) (octets : List ℕ) (v : View) → Actions v (hears read v octets)
hears_actions read [] v = none v
hears_actions read (octet ∷ octets) v =
    let w : View = hears_octet read v octet in
    then v w (hears read w octets) (octet_actions read v octet) (hears_actions read octets w)

-- ---- the calls of the data connection

-- what is so of no connection, and of the one that stands, is so of the one that events see
by_connection : (v : View) (f : ServerLink Transfer → View) → Actions v (f Data.Free) → Actions v (f v.session.connection) → Actions v (f (connection_of v.session))
by_connection v f free stands = cond_both v.session.closing Data.Free v.session.connection (λ connection. Actions v (f connection)) (λ is. free) (λ is. stands)

same_listening : (connection : ServerLink Transfer) (port : ℕ) (v : View) → IsSame v.session (turned (listening_turn connection v.context port v.session) v).session
same_listening (Data.Asked Asking.Pasv) port v = refl
same_listening (Data.Asked Asking.Epsv) port v = refl
same_listening Data.Free port v = refl
same_listening (Data.Active endpoint) port v = refl
same_listening Data.Passive port v = refl
same_listening Data.Ready port v = refl
same_listening (Data.Opening transfer way) port v = refl
same_listening (Data.Transferring transfer) port v = refl

same_unheard : (connection : ServerLink Transfer) (v : View) → IsSame v.session (unheard connection v).session
same_unheard (Data.Asked asked) v = refl
same_unheard Data.Free v = refl
same_unheard (Data.Active endpoint) v = refl
same_unheard Data.Passive v = refl
same_unheard Data.Ready v = refl
same_unheard (Data.Opening transfer way) v = refl
same_unheard (Data.Transferring transfer) v = refl

same_port : (is_peer : Bool) (v : View) → IsSame v.session (port_opens is_peer v).session
same_port true v = refl
same_port false v = refl

same_port_for : (is_peer : Bool) (transfer : Transfer) (v : View) → IsSame v.session (port_opens_for is_peer transfer v).session
same_port_for true transfer v = refl
same_port_for false transfer v = refl

same_opens : (connection : ServerLink Transfer) (is_peer : Bool) (v : View) → IsSame v.session (opens connection is_peer v).session
same_opens Data.Passive is_peer v = same_port is_peer v
same_opens (Data.Opening transfer Ways.Accept) is_peer v = same_port_for is_peer transfer v
same_opens (Data.Opening transfer (Ways.Connect endpoint)) is_peer v = refl
same_opens Data.Free is_peer v = refl
same_opens (Data.Asked asked) is_peer v = refl
same_opens (Data.Active endpoint) is_peer v = refl
same_opens Data.Ready is_peer v = refl
same_opens (Data.Transferring transfer) is_peer v = refl

same_refuses : (connection : ServerLink Transfer) (v : View) → IsSame v.session (refuses connection v).session
same_refuses Data.Passive v = refl
same_refuses (Data.Opening transfer way) v = refl
same_refuses Data.Free v = refl
same_refuses (Data.Asked asked) v = refl
same_refuses (Data.Active endpoint) v = refl
same_refuses Data.Ready v = refl
same_refuses (Data.Transferring transfer) v = refl

same_given : (connection : ServerLink Transfer) (count : ℕ) (v : View) → IsSame v.session (takes_given connection count v).session
same_given (Data.Transferring (Transfers.Download rest)) count v = refl
same_given (Data.Transferring (Transfers.Listing rest)) count v = refl
same_given (Data.Transferring (Transfers.Upload path keep d)) count v = refl
same_given (Data.Transferring Transfers.OverLimit) count v = refl
same_given Data.Free count v = refl
same_given (Data.Asked asked) count v = refl
same_given (Data.Active endpoint) count v = refl
same_given Data.Passive count v = refl
same_given Data.Ready count v = refl
same_given (Data.Opening transfer way) count v = refl

-- with what is given out the transfer is over
same_completed : (v w : View) → IsSame v.session w.session → IsSame v.session (completed w).session
same_completed v w same = same_given_out w.session.connection w ∙ same

ends_actions : (connection : ServerLink Transfer) (v : View) → v.session.connection ≡ connection → Actions v (ends connection v)
ends_actions (Data.Transferring transfer) v is = one v (ends (Data.Transferring transfer) v) (ended transfer (disconnected v.session) is refl refl)
ends_actions Data.Ready v is = still v (ends Data.Ready v) refl
ends_actions Data.Free v is = none v
ends_actions (Data.Asked asked) v is = none v
ends_actions (Data.Active endpoint) v is = none v
ends_actions Data.Passive v is = none v
ends_actions (Data.Opening transfer way) v is = none v

breaks_actions : (connection : ServerLink Transfer) (v : View) → v.session.connection ≡ connection → Actions v (breaks connection v)
breaks_actions (Data.Transferring transfer) v is = one v (breaks (Data.Transferring transfer) v) (broke transfer (disconnected v.session) is refl refl)
breaks_actions Data.Ready v is = still v (breaks Data.Ready v) refl
breaks_actions Data.Free v is = none v
breaks_actions (Data.Asked asked) v is = none v
breaks_actions (Data.Active endpoint) v is = none v
breaks_actions Data.Passive v is = none v
breaks_actions (Data.Opening transfer way) v is = none v

-- ---- data octets

same_said : (connection : ServerLink Transfer) (said : Said) (v : View) → IsSame v.session (takes_said connection said v).session
same_said (Data.Transferring (Transfers.Upload path keep d)) (says sign) v = refl
same_said (Data.Transferring (Transfers.Upload path keep d)) (marker text) v = refl
same_said (Data.Transferring Transfers.OverLimit) said v = refl
same_said (Data.Transferring (Transfers.Download rest)) said v = refl
same_said (Data.Transferring (Transfers.Listing rest)) said v = refl
same_said Data.Free said v = refl
same_said (Data.Asked asked) said v = refl
same_said (Data.Active endpoint) said v = refl
same_said Data.Passive said v = refl
same_said Data.Ready said v = refl
same_said (Data.Opening transfer way) said v = refl

same_all : (said : List Said) (v : View) → IsSame v.session (takes_all said v).session
same_all [] v = refl
same_all (one ∷ more) v = same_all more (takes_said v.session.connection one v) ∙ same_said v.session.connection one v

same_octet : (fault : Option FrameFault) (path : Names) (keep : Keep) (d : Decoder) (said : List Said) (v : View) → IsSame v.session (takes_octet fault path keep d said v).session
same_octet None path keep d said v = same_all said (with_connection (Data.Transferring (Transfers.Upload path keep d)) v)
same_octet (Some fault) path keep d said v = refl

same_data : (connection : ServerLink Transfer) (octet : ℕ) (v : View) → IsSame v.session (takes_data connection octet v).session
same_data (Data.Transferring (Transfers.Upload path keep d)) octet v = same_octet (fault_of (read_on d octet)) path keep (read_on d octet) (octet_says d octet) v
same_data (Data.Transferring Transfers.OverLimit) octet v = refl
same_data (Data.Transferring (Transfers.Download rest)) octet v = refl
same_data (Data.Transferring (Transfers.Listing rest)) octet v = refl
same_data Data.Free octet v = refl
same_data (Data.Asked asked) octet v = refl
same_data (Data.Active endpoint) octet v = refl
same_data Data.Passive octet v = refl
same_data Data.Ready octet v = refl
same_data (Data.Opening transfer way) octet v = refl

receives_actions : (octets : List ℕ) (v : View) → Actions v (receives v octets)
unfolding receives_octet
receives_actions [] v = none v
receives_actions (octet ∷ octets) v =
    let w : View = receives_octet v octet in
    then v w (receives w octets) (by_step v (takes_data (connection_of v.session) octet v) (same_data (connection_of v.session) octet v)) (receives_actions octets w)

-- ---- all calls

pub calls_are_actions : CallsAreActions
unfolding clocked gives_control listening listen_refused data_opened data_refused gives_data data_end data_fault data_closed control_end
calls_are_actions read (Clock moment) v = by_step v (clock_step moment v) refl
calls_are_actions read (Hear octets) v = hears_actions read (take (most_heard read v octets) octets) v
calls_are_actions read (ControlOut room) v = by_step v (control_step (most_given room v.owed) v) refl
calls_are_actions read ControlEnd v = still v (control_end v) refl
calls_are_actions read (Listening port) v = by_step v (listening_step port v) (same_listening (connection_of v.session) port v)
calls_are_actions read ListenRefused v = by_step v (no_port_step v) (same_unheard (connection_of v.session) v)
calls_are_actions read (DataOpened host) v =
    let w : View = opens (connection_of v.session) (same_host host v.context.peer) v in
    by_step v (opened_step host v) (same_completed v w (same_opens (connection_of v.session) (same_host host v.context.peer) v))
calls_are_actions read DataRefused v = by_step v (refused_step v) (same_refuses (connection_of v.session) v)
calls_are_actions read (DataHear octets) v = receives_actions (take (most_received v octets) octets) v
calls_are_actions read (DataOut room) v =
    let count : ℕ = most_given room (to_give v) in
    by_step v (given_step count v) (same_completed v (takes_given (connection_of v.session) count v) (same_given (connection_of v.session) count v))
calls_are_actions read DataEnd v =
    then v (end_step v) (later (end_step v)) (by_connection v (λ connection. ends connection v) (none v) (ends_actions v.session.connection v refl)) (later_actions (end_step v))
calls_are_actions read DataFault v =
    then v (break_step v) (later (break_step v)) (by_connection v (λ connection. breaks connection v) (none v) (breaks_actions v.session.connection v refl)) (later_actions (break_step v))
calls_are_actions read DataClosed v = by_step v (close_step v) refl
calls_are_actions read AsksWants v = none v

pub turns_are_actions : TurnsAreActions
turns_are_actions read turn s v at =
    ((call read turn.cue (lent_to s.table v)).1, calls_are_actions read turn.cue (lent_to s.table v), maps_follow read turn s v at)
