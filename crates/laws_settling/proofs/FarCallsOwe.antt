-- What the server comes to owe by each call stands behind what it owed, and asks nothing.
use Rattle.std.proofs.Common.{inl, inr, ℕ, List, [], ◌∷◌, ◌++◌, map, Bool, true, false, ◌==◌, Option, Some, None, refl, sym, subst}
use Rattle.std.specs.List.{flat_map}
use Rattle.std.proofs.lemmas.Bool.{cond_both}
use Rattle.ftp_endpoint.specs.declared.host.Host.{Host}
use Rattle.ftp_wire.specs.Decoder.{Decoder, fault_of, octet_says, read_on}
use Rattle.ftp_ends.specs.Ear.{Ear, Unfinished, ear_out, ear_step, line_out, unit_says, within_out}
use Rattle.ftp_ends.specs.Link.{same_host}
use Rattle.ftp_mode.specs.Said.{Said, says, marker}
use Rattle.ftp_mode.specs.declared.fault.FrameFault.{FrameFault}
use Rattle.ftp_nvt.proofs.FoldLemmas.{ends}
use Rattle.ftp_nvt.specs.Lines.{NvtEvent, line, too_long, owed}
use Rattle.ftp_nvt.specs.Telnet.{TelnetUnit, data_octet, option}
use Rattle.ftp_nvt.specs.declared.line.Stage.{Stage}
use Rattle.ftp_nvt.specs.declared.line.Stage.TheVariants as Lined
use Rattle.ftp_nvt.specs.declared.line.TheConstants.{LF}
use Rattle.ftp_nvt.specs.declared.telnet.TheConstants.{DO, WILL}
use Rattle.ftp_path.specs.Path.{Names}
use Rattle.ftp_server_model.specs.Calls.{clock_step, clocked, close_step, connection_of, data_closed, data_end, data_fault, data_opened, data_refused, end_step, break_step, ends as far_ends, breaks, gives_data, listening, listening_step, listening_turn, opens, receives, receives_octet, refused_step, refuses, takes_all, takes_data, takes_given, takes_octet, takes_said, with_connection}
use Rattle.ftp_server_model.specs.Endpoint.{disconnected, forgotten}
use Rattle.ftp_server_model.specs.Machine.{Ending, Reading, abort_said, aborted, aborts, at_break, at_end, completed, concluded, heard_event, heard_events, heard_line, hears, hears_octet, is_abort, later}
use Rattle.ftp_server_model.specs.Replies.{fixed_reply, mark_reply}
use Rattle.ftp_server_model.specs.View.{Transfer, View, line_limit}
use Rattle.ftp_server_model.specs.declared.heard.HeardLine.{HeardLine}
use Rattle.ftp_server_model.specs.declared.heard.HeardLine.TheVariants.{TooLong}
use Rattle.ftp_server_model.specs.declared.reply.FixedReply.TheVariants as Texts
use Rattle.ftp_server_model.specs.declared.session.Keep.{Keep}
use Rattle.ftp_server_model.specs.declared.session.ServerLink.{ServerLink}
use Rattle.ftp_server_model.specs.declared.session.ServerLink.TheVariants as Data
use Rattle.ftp_server_model.specs.declared.session.Transfer.TheVariants as Transfers
use Rattle.ftp_server_model.specs.declared.session.Way.TheVariants as Ways
use Rattle.laws_settling.proofs.Asking.{Calm, calm_dont, calm_wont}
use Rattle.laws_settling.proofs.FarLinesOwe.{Grows, completed_grows, grows_none, grows_then, later_grows, said_grows, turned_grows}

-- nothing more is owed
pub same : (v : View) → Grows v v
same v = grows_none v v refl

-- and then the line that waits
then_later : (v step : View) → Grows v step → Grows v (later step)
then_later v step g = grows_then v step (later step) g (later_grows step)

-- the end of a transfer, with its reply
ending_grows : (ending : Ending) (v : View) → Grows v (concluded ending v)
ending_grows ending v = said_grows (fixed_reply ending.1) v _ refl

-- ---- control octets

-- what ABOR ends
aborts_grows : (connection : ServerLink Transfer) (v : View) → Grows v (aborts connection v)
aborts_grows (Data.Transferring transfer) v = ending_grows (at_break v.context.moment transfer (forgotten v.session)) v
aborts_grows (Data.Opening transfer way) v = said_grows (fixed_reply Texts.NoConnection) v _ refl
aborts_grows connection v = same v

-- ABOR and its reply
aborted_grows : (v : View) → Grows v (aborted v)
aborted_grows v =
    let u : View = aborts v.session.connection v in
    then_later v (abort_said u) (grows_then v u (abort_said u) (aborts_grows v.session.connection v) (said_grows (fixed_reply Texts.AbortDone) u _ refl))

-- a line that was heard
line_grows : (heard : HeardLine (List ℕ)) (v : View) → Grows v (heard_line heard v)
line_grows heard v =
    cond_both (is_abort heard v) _ _ (Grows v) (λ is. aborted_grows v)
    (λ is. let g = later_grows (record v { waiting = Some heard }) in record { more = g.more; calm = g.calm; is = g.is })

-- the answers that are owed ask nothing
abbrev IsPolite : NvtEvent → Type 0
IsPolite (line text) = Unit {0}
IsPolite too_long = Unit {0}
IsPolite (owed answer) = Calm answer

-- so it is of each
abbrev ArePolite : List NvtEvent → Type 0
ArePolite [] = Unit {0}
ArePolite (event ∷ events) = IsPolite event × ArePolite events

-- and of two rows
polite_append : (a b : List NvtEvent) → ArePolite a → ArePolite b → ArePolite (a ++ b)
polite_append [] b x y = y
polite_append (event ∷ a) b x y = (x.0, polite_append a b x.1 y)

-- an octet of a line is owed no answer
within_polite : (u : Unfinished) (c : ℕ) → ArePolite (within_out line_limit u c)
within_polite u c =
    cond_both (u.count == line_limit) _ _ ArePolite (λ is. (tt, tt)) (λ is. cond_both (c == LF) _ _ ArePolite (λ lf. (tt, tt)) (λ lf. tt))

-- at each place in a line
line_polite : (stage : Stage) (u : Unfinished) (c : ℕ) → ArePolite (line_out line_limit stage u c)
line_polite Lined.Past u c = tt
line_polite stage u c = within_polite u c

-- a unit
unit_polite : (u : Unfinished) (unit : TelnetUnit) → ArePolite (unit_says line_limit u unit)
unit_polite u (data_octet c) = polite_append (line_out line_limit u.stage u c ++ []) [] (polite_append (line_out line_limit u.stage u c) [] (line_polite u.stage u c) tt) tt
unit_polite u (option verb c) =
    cond_both (verb == DO) _ _ (λ (answers : List (List ℕ)). ArePolite (map owed answers)) (λ is. (calm_wont c, tt))
    (λ is. cond_both (verb == WILL) _ _ (λ (answers : List (List ℕ)). ArePolite (map owed answers)) (λ will. (calm_dont c, tt)) (λ will. tt))
unit_polite u unit = tt

-- an octet
out_polite : (e : Ear) (c : ℕ) → ArePolite (ear_out line_limit e c)
out_polite e c =
    let P : List TelnetUnit → Type 0 = λ units. ArePolite (flat_map (unit_says line_limit e.line) units) in
    elim (ends e.place c) [
      | inl f ↦ subst P (sym f) tt
      | inr f ↦ subst P (sym f.1) (polite_append (unit_says line_limit e.line f.0) [] (unit_polite e.line f.0) tt)
    ]

-- an event of the ear
event_grows : (read : Reading) (event : NvtEvent) (v : View) → IsPolite event → Grows v (heard_event read event v)
event_grows read (line text) v polite = line_grows (read text) v
event_grows read too_long v polite = line_grows TooLong v
event_grows read (owed answer) v polite = record { more = answer; calm = polite; is = refl }

events_grow : (read : Reading) (events : List NvtEvent) (v : View) → ArePolite events → Grows v (heard_events read events v)
events_grow read [] v polite = same v
events_grow read (event ∷ events) v polite =
    grows_then v (heard_event read event v) (heard_events read events (heard_event read event v)) (event_grows read event v polite.0) (events_grow read events (heard_event read event v) polite.1)

-- one control octet
octet_grows : (read : Reading) (v : View) (octet : ℕ) → Grows v (hears_octet read v octet)
unfolding hears_octet
octet_grows read v octet =
    let g = events_grow read (ear_out line_limit v.ear octet) (record v { ear = ear_step line_limit v.ear octet }) (out_polite v.ear octet) in
    record { more = g.more; calm = g.calm; is = g.is }

-- control octets
pub hears_grows : (read : Reading) (octets : List ℕ) (v : View) → Grows v (hears read v octets)
hears_grows read [] v = same v
hears_grows read (octet ∷ octets) v =
    grows_then v (hears_octet read v octet) (hears read (hears_octet read v octet) octets) (octet_grows read v octet) (hears_grows read octets (hears_octet read v octet))

-- the clock is set
pub clocked_grows : (moment : ℕ) (v : View) → Grows v (clocked moment v)
unfolding clocked
clocked_grows moment v = then_later v (clock_step moment v) (grows_none v (clock_step moment v) refl)

-- a close is done
pub data_closed_grows : (v : View) → Grows v (data_closed v)
unfolding data_closed
data_closed_grows v = then_later v (close_step v) (grows_none v (close_step v) refl)

-- a port is told
pub listening_grows : (port : ℕ) (v : View) → Grows v (listening port v)
unfolding listening
listening_grows port v = then_later v (listening_step port v) (turned_grows (listening_turn (connection_of v.session) v.context port v.session) v)

-- ---- the octets of the data connection

-- a record of an upload
said_more : (connection : ServerLink Transfer) (said : Said) (v : View) → Grows v (takes_said connection said v)
said_more (Data.Transferring (Transfers.Upload path keep d)) (says sign) v = grows_none v _ refl
said_more (Data.Transferring (Transfers.Upload path keep d)) (marker text) v = said_grows (mark_reply text _) v _ refl
said_more connection said v = same v

-- more of them
all_more : (said : List Said) (v : View) → Grows v (takes_all said v)
all_more [] v = same v
all_more (one ∷ said) v =
    let u : View = takes_said v.session.connection one v in
    grows_then v u (takes_all said u) (said_more v.session.connection one v) (all_more said u)

-- an octet of an upload, and what it says
takes_octet_grows : (fault : Option FrameFault) (path : Names) (keep : Keep) (d : Decoder) (said : List Said) (v : View) → Grows v (takes_octet fault path keep d said v)
takes_octet_grows None path keep d said v =
    let u : View = with_connection (Data.Transferring (Transfers.Upload path keep d)) v in
    grows_then v u (takes_all said u) (grows_none v u refl) (all_more said u)
takes_octet_grows (Some fault) path keep d said v = said_grows (fixed_reply Texts.LocalFault) v _ refl

-- an octet of the link
takes_data_grows : (connection : ServerLink Transfer) (octet : ℕ) (v : View) → Grows v (takes_data connection octet v)
takes_data_grows (Data.Transferring (Transfers.Upload path keep d)) octet v = takes_octet_grows (fault_of (read_on d octet)) path keep (read_on d octet) (octet_says d octet) v
takes_data_grows connection octet v = same v

-- the same, as a call
received_grows : (v : View) (octet : ℕ) → Grows v (receives_octet v octet)
unfolding receives_octet
received_grows v octet = then_later v (takes_data (connection_of v.session) octet v) (takes_data_grows (connection_of v.session) octet v)

-- octets of the link
pub receives_grows : (octets : List ℕ) (v : View) → Grows v (receives v octets)
receives_grows [] v = same v
receives_grows (octet ∷ octets) v = grows_then v (receives_octet v octet) (receives (receives_octet v octet) octets) (received_grows v octet) (receives_grows octets (receives_octet v octet))

-- octets were given
given_grows : (connection : ServerLink Transfer) (count : ℕ) (v : View) → Grows v (takes_given connection count v)
given_grows (Data.Transferring (Transfers.Download rest)) count v = grows_none v _ refl
given_grows (Data.Transferring (Transfers.Listing rest)) count v = grows_none v _ refl
given_grows connection count v = same v

-- octets go out over the link
pub gives_data_grows : (count : ℕ) (v : View) → Grows v (gives_data count v)
unfolding gives_data
gives_data_grows count v =
    let u : View = takes_given (connection_of v.session) count v in
    then_later v (completed u) (grows_then v u (completed u) (given_grows (connection_of v.session) count v) (completed_grows u))

-- ---- the data connection

-- a link opens
opens_grows : (connection : ServerLink Transfer) (peer : Bool) (v : View) → Grows v (opens connection peer v)
opens_grows Data.Passive true v = grows_none v _ refl
opens_grows Data.Passive false v = grows_none v _ refl
opens_grows (Data.Opening transfer Ways.Accept) true v = grows_none v _ refl
opens_grows (Data.Opening transfer Ways.Accept) false v = said_grows (fixed_reply Texts.NoConnection) v _ refl
opens_grows (Data.Opening transfer (Ways.Connect endpoint)) peer v = grows_none v _ refl
opens_grows connection peer v = same v

-- the same, as a call
pub data_opened_grows : (host : Host) (v : View) → Grows v (data_opened host v)
unfolding data_opened
data_opened_grows host v =
    let u : View = opens (connection_of v.session) (same_host host v.context.peer) v in
    then_later v (completed u) (grows_then v u (completed u) (opens_grows (connection_of v.session) (same_host host v.context.peer) v) (completed_grows u))

-- a link is refused
refuses_grows : (connection : ServerLink Transfer) (v : View) → Grows v (refuses connection v)
refuses_grows Data.Passive v = grows_none v _ refl
refuses_grows (Data.Opening transfer way) v = said_grows (fixed_reply Texts.NoConnection) v _ refl
refuses_grows connection v = same v

-- the same, as a call
pub data_refused_grows : (v : View) → Grows v (data_refused v)
unfolding data_refused
data_refused_grows v = then_later v (refused_step v) (refuses_grows (connection_of v.session) v)

-- the client has closed the link
ends_grows : (connection : ServerLink Transfer) (v : View) → Grows v (far_ends connection v)
ends_grows Data.Ready v = grows_none v _ refl
ends_grows (Data.Transferring transfer) v = ending_grows (at_end v.context.moment transfer (disconnected v.session)) v
ends_grows connection v = same v

-- the same, as a call
pub data_end_grows : (v : View) → Grows v (data_end v)
unfolding data_end
data_end_grows v = then_later v (end_step v) (ends_grows (connection_of v.session) v)

-- the link breaks
breaks_grows : (connection : ServerLink Transfer) (v : View) → Grows v (breaks connection v)
breaks_grows Data.Ready v = grows_none v _ refl
breaks_grows (Data.Transferring transfer) v = ending_grows (at_break v.context.moment transfer (disconnected v.session)) v
breaks_grows connection v = same v

-- the same, as a call
pub data_fault_grows : (v : View) → Grows v (data_fault v)
unfolding data_fault
data_fault_grows v = then_later v (break_step v) (breaks_grows (connection_of v.session) v)
