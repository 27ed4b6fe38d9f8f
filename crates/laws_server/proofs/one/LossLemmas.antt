-- What is left where memory was refused or the device failed is small too.
use Rattle.std.proofs.Common.{◌≡◌, ℕ, ◌+◌, ◌*◌, ◌≤◌, ◌<◌, ◌^◌, inl, inr, List, [], ◌∷◌, ◌++◌, Bool, true, false, not, ◌&&◌, Option, Some, None, refl, sym, ap, subst, ◌∙◌, arith, length, length-append}
use Rattle.std.specs.Prelude.{codes, decimal, nat_lt, if◌then◌else◌, ◌==◌}
use Rattle.std.proofs.lemmas.Bool.{and_parts, cond_both, leb-true, ltb-true, not-true}
use Rattle.ftp_command.proofs.CarriedLemmas.{decimal_fits}
use Rattle.ftp_command.specs.declared.command.Command.{Command}
use Rattle.ftp_command.specs.declared.fault.CommandFault.TheVariants as Faults
use Rattle.ftp_wire.specs.Decoder.{read_on}
use Rattle.ftp_ends.specs.Ear.{ear_out, ear_step}
use Rattle.ftp_ends.specs.Reply.{reply_octets}
use Rattle.ftp_mode.specs.Block.{block_count, ends_of, has}
use Rattle.ftp_mode.specs.Said.{Said, marker, says}
use Rattle.ftp_mode.specs.Stream.{code_said}
use Rattle.ftp_mode.specs.declared.descriptor.TheConstants.{END_OF_FILE, END_OF_RECORD, RESTART_MARKER}
use Rattle.ftp_mode.specs.Reading.{Place, plain, outside, escaped, at_head, at_high, at_low, inside, marking, ended as passed, Reading as Reads, going, failed, place_out, read_out}
use Rattle.ftp_nvt.specs.Lines.{NvtEvent, line, too_long, owed}
use Rattle.ftp_reply.specs.Reply.{last_line}
use Rattle.ftp_repr.specs.Signs.{end_file, end_record}
use Rattle.ftp_settings.specs.Marker.{is_marker_octet}
use Rattle.ftp_server_model.specs.Act.{forgets, is_transfer}
use Rattle.ftp_server_model.specs.Calls.{connection_of, is_upload, may_receive, takes_all, takes_given, takes_said, with_connection}
use Rattle.ftp_server_model.specs.Endpoint.{disconnected, forgotten}
use Rattle.ftp_server_model.specs.Failing.{AbortFails, ActingFails, EndFails, EventIsHeard, EventsAreHeard, GiveFails, InstallFails, Late, LineFails, LineIsHeard, as_ever, not_read, not_done, OctetIsHeard, OctetIsReceived, ReadingFails, UploadFails, WaitingFails, install_lost, line_lost}
use Rattle.ftp_server_model.specs.Held.{waiting_len}
use Rattle.ftp_server_model.specs.Kept.{ServerKeeps}
use Rattle.ftp_server_model.specs.Keep.{kept_count}
use Rattle.ftp_server_model.specs.Machine.{IsReading, Reading, abort_said, faulted, has_room, heard_event, heard_events, heard_line, hears_octet, is_abort, is_connection_busy, is_idle, later, may_hear}
use Rattle.ftp_server_model.specs.Replies.{fixed_reply, mark_reply}
use Rattle.ftp_server_model.specs.Texts.{fixed_reply_code, text_of}
use Rattle.ftp_server_model.specs.Told.{CanBeHeard, Keeps}
use Rattle.ftp_server_model.specs.View.{Session, Transfer, View, line_limit}
use Rattle.ftp_server_model.specs.declared.heard.HeardLine.{HeardLine}
use Rattle.ftp_server_model.specs.declared.heard.HeardLine.TheVariants.{Asks, Bad, TooLong}
use Rattle.ftp_server_model.specs.declared.reply.FixedReply.TheVariants as Texts
use Rattle.ftp_server_model.specs.declared.session.Pending.TheVariants as Pendings
use Rattle.ftp_server_model.specs.declared.session.ServerLink.{ServerLink}
use Rattle.ftp_server_model.specs.declared.session.ServerLink.TheVariants as Data
use Rattle.ftp_server_model.specs.declared.session.Transfer.TheVariants as Transfers
use Rattle.ftp_server_model.proofs.CallLemmas.{busy_owed, later_keeps, replied_keeps}
use Rattle.ftp_server_model.proofs.RepliesWritten.{lines_short}
use Rattle.ftp_server_model.proofs.ServerBounds.{gives_more}
use Rattle.ftp_server_model.proofs.TurnLemmas.{connection_keeps, forgotten_keeps, pending_keeps, read_can_be_heard}
use Rattle.laws_server.specs.one.Small.{IsShort, IsShortConnection, IsSmall}
use Rattle.ftp_ends.proofs.EventLemmas.{out_one}
use Rattle.ftp_ends.proofs.ReadLemmas.{IsShortEvent, AreShortEvents, ear_says, ear_short}
use Rattle.laws_server.proofs.one.SaidLemmas.{heard_short}
use Rattle.laws_server.proofs.one.SessionLemmas.{disconnected_short, forgets_short}
use Rattle.laws_server.proofs.one.ViewLemmas.{all_short, forgets_with, given_by_short, later_short, moves_short, replied_short, said_short}
use Rattle.laws_server.proofs.one.Theorems.{hears_small, receives_small}

-- ---- the line that waits

fault_room : length (reply_octets (fixed_reply Texts.LocalFault)) ≤ 256
fault_room = omega (arith, lines_short (last_line (fixed_reply_code Texts.LocalFault) (text_of Texts.LocalFault) ∷ []))

forgets_calm : (c : Command (List ℕ)) (s : Session) → is_connection_busy s.connection ≡ false → is_connection_busy (forgets c s).connection ≡ false
forgets_calm c s calm = cond_both (is_transfer c) (forgotten s) s (λ (t : Session). is_connection_busy t.connection ≡ false) (λ is. refl) (λ is. calm)

forgets_keeps : (c : Command (List ℕ)) (s : Session) → Keeps s → Keeps (forgets c s)
forgets_keeps c s k = cond_both (is_transfer c) (forgotten s) s Keeps (λ is. forgotten_keeps s k) (λ is. k)

lost_small : (c : Command (List ℕ)) (v : View) → is_idle v ≡ true → IsSmall v → IsSmall (line_lost c v)
lost_small c v idle k =
    let both = and_parts (not (is_connection_busy v.session.connection)) (has_room v) idle in
    let few = leb-true (length v.owed) 4096 both.1 in
    let calm = not-true (is_connection_busy v.session.connection) both.0 in
    let s : Session = record v.session { pending = Pendings.Nothing } in
    record {
      keeps = replied_keeps Texts.LocalFault (forgets c s) v k.keeps (forgets_keeps c s (pending_keeps Pendings.Nothing v.session tt k.keeps.session)) (forgets_calm c s calm) (omega (arith, few));
      short = replied_short Texts.LocalFault (forgets c s) v (forgets_short c s (record { files = k.short.session.files; connection = k.short.session.connection })) k.short;
    }

line_fails : (heard : HeardLine (List ℕ)) (v w : View) → is_idle v ≡ true → LineFails heard v w → IsSmall v → IsSmall w
line_fails TooLong v w idle is k = absurd is
line_fails (Bad fault) v w idle is k = absurd is
line_fails (Asks c) v w idle is k = subst IsSmall (sym is.2) (lost_small c v idle k)

-- a view of which no line waits
abbrev pub silent : View → View
silent v = record v { waiting = None }

waiting_fails : (waiting : Option (HeardLine (List ℕ))) (v w : View) → WaitingFails waiting v w → IsSmall (silent v) → IsSmall w
waiting_fails None v w is k = absurd is
waiting_fails (Some heard) v w is k = line_fails heard (silent v) w is.0 is.1 k

pub silent_small : (v : View) → IsSmall v → IsSmall (silent v)
silent_small v k = record {
  keeps = record { accounts = k.keeps.accounts; host = k.keeps.host; session = k.keeps.session; waiting = tt; owed = k.keeps.owed };
  short = record { session = k.short.session; reading = k.short.reading; waiting = omega arith };
}

-- the end of a call, by what it is where no line waits
pub late_by : (v w : View) → Late v w → IsSmall (later v) → IsSmall (silent v) → IsSmall w
late_by v w (inl is) done k = subst IsSmall (sym is) done
late_by v w (inr is) done k = waiting_fails v.waiting v w is k

pub late_small : (v w : View) → Late v w → IsSmall v → IsSmall w
late_small v w late k = late_by v w late (record { keeps = later_keeps v k.keeps; short = later_short v k.short }) (silent_small v k)

-- ---- an upload that is not installed

lost_install : (session : Session) (v : View) → IsSmall v → Keeps session → is_connection_busy session.connection ≡ false → IsShort (install_lost session v) → length v.owed ≤ 7936 → IsSmall (install_lost session v)
lost_install session v k kept calm short few = record { keeps = replied_keeps Texts.LocalFault session v k.keeps kept calm few; short = short }

install_fails : (connection : ServerLink Transfer) (v w : View) → v.session.connection ≡ connection → InstallFails connection v w → IsSmall v → IsSmall w
install_fails (Data.Transferring (Transfers.Upload path keep d)) v w is lost k =
    let few = busy_owed v k.keeps (ap is_connection_busy is) in
    late_small (install_lost (disconnected v.session) v) w lost
    (lost_install (disconnected v.session) v k (connection_keeps Data.Free v.session tt k.keeps.session) refl (replied_short Texts.LocalFault (disconnected v.session) v (disconnected_short v.session k.short.session) k.short) (omega (arith, few)))
install_fails (Data.Transferring Transfers.OverLimit) v w is lost k = absurd lost
install_fails (Data.Transferring (Transfers.Download rest)) v w is lost k = absurd lost
install_fails (Data.Transferring (Transfers.Listing rest)) v w is lost k = absurd lost
install_fails (Data.Opening transfer way) v w is lost k = absurd lost
install_fails (Data.Asked asked) v w is lost k = absurd lost
install_fails (Data.Active endpoint) v w is lost k = absurd lost
install_fails Data.Free v w is lost k = absurd lost
install_fails Data.Passive v w is lost k = absurd lost
install_fails Data.Ready v w is lost k = absurd lost

pub end_fails : (v w : View) → EndFails v w → IsSmall v → IsSmall w
end_fails v w lost k = by v.session.closing lost
  where
    by : (b : Bool) → InstallFails (if b then Data.Free else v.session.connection) v w → IsSmall w
    by true lost = absurd lost
    by false lost = install_fails v.session.connection v w refl lost k

abort_fails : (connection : ServerLink Transfer) (v w : View) → AbortFails connection v w → length v.owed ≤ 4096 → IsSmall v → IsSmall w
abort_fails (Data.Transferring (Transfers.Upload path keep d)) v w lost few k =
    let s : Session = forgotten v.session in
    let x : View = install_lost s v in
    let kept = forgotten_keeps v.session k.keeps.session in
    let one = lost_install s v k kept refl (forgets_with Texts.LocalFault v k.short) (omega (arith, few)) in
    late_small (abort_said x) w lost
    (record {
      keeps = replied_keeps Texts.AbortDone s x one.keeps kept refl (omega (arith, length-append v.owed (reply_octets (fixed_reply Texts.LocalFault)), fault_room, few));
      short = replied_short Texts.AbortDone s x one.short.session one.short;
    })
abort_fails (Data.Transferring Transfers.OverLimit) v w lost few k = absurd lost
abort_fails (Data.Transferring (Transfers.Download rest)) v w lost few k = absurd lost
abort_fails (Data.Transferring (Transfers.Listing rest)) v w lost few k = absurd lost
abort_fails (Data.Opening transfer way) v w lost few k = absurd lost
abort_fails (Data.Asked asked) v w lost few k = absurd lost
abort_fails (Data.Active endpoint) v w lost few k = absurd lost
abort_fails Data.Free v w lost few k = absurd lost
abort_fails Data.Passive v w lost few k = absurd lost
abort_fails Data.Ready v w lost few k = absurd lost

-- ---- a transfer that is lost

-- a view but for its data connection and the octets that it owes
abbrev erased : View → View
erased v = record v { session = disconnected v.session; owed = [] }

erased_keeps : (v : View) → ServerKeeps v → ServerKeeps (erased v)
erased_keeps v k = record { accounts = k.accounts; host = k.host; session = connection_keeps Data.Free v.session tt k.session; waiting = k.waiting; owed = omega arith }

-- a fault of a view that is of another but for these
faulted_small : (v x : View) → erased x ≡ erased v → length x.owed ≤ 7936 → IsShort x → IsSmall v → IsSmall (faulted x)
faulted_small v x same few short k =
    let kept : ServerKeeps (erased x) = subst ServerKeeps (sym same) (erased_keeps v k.keeps) in
    record {
      keeps = record {
        accounts = kept.accounts;
        host = kept.host;
        session = record { access = kept.session.access; root = kept.session.root; cwd = kept.session.cwd; pending = kept.session.pending; connection = tt };
        waiting = kept.waiting;
        owed = omega (arith, length-append x.owed (reply_octets (fixed_reply Texts.LocalFault)), fault_room, few);
      };
      short = forgets_with Texts.LocalFault x short;
    }

-- a download or a listing of which the next octets were not had
pub give_fails : (count : ℕ) (v w : View) → GiveFails count v w → IsSmall v → IsSmall w
give_fails count v w lost k =
    let x : View = takes_given (connection_of v.session) count v in
    let more = gives_more count v lost.0 in
    let few = busy_owed v k.keeps (ap is_connection_busy more.stood) in
    let same : length x.owed ≡ length v.owed = ap (λ (u : View). length u.owed) more.gives in
    late_small (faulted x) w lost.1 (faulted_small v x (ap erased more.gives) (omega (arith, few, same)) (given_by_short count v k.short) k)

-- ---- an octet of an upload that is lost

-- how many control octets are owed for what the wire says, at most
abbrev marks_owe : List Said → ℕ
marks_owe [] = 0
marks_owe (says sign ∷ more) = marks_owe more
marks_owe (marker text ∷ more) = 90 + (2 * length text + marks_owe more)

front_owes : (taken rest : List Said) → marks_owe taken ≤ marks_owe (taken ++ rest)
front_owes [] rest = omega arith
front_owes (says sign ∷ taken) rest = front_owes taken rest
front_owes (marker text ∷ taken) rest = omega (arith, front_owes taken rest)

ends_owe : (d : ℕ) → marks_owe (ends_of d) ≡ 0
ends_owe d = by (has d END_OF_RECORD) (has d END_OF_FILE)
  where
    by : (a b : Bool) → marks_owe ((if a then says end_record ∷ [] else []) ++ (if b then says end_file ∷ [] else [])) ≡ 0
    by true true = refl
    by true false = refl
    by false true = refl
    by false false = refl

few_if : (b : Bool) (one other : List Said) → marks_owe one ≤ 600 → marks_owe other ≤ 600 → marks_owe (if b then one else other) ≤ 600
few_if true one other a c = a
few_if false one other a c = c

code_few : (c : ℕ) → marks_owe (code_said c) ≤ 600
code_few c = few_if (c == 255) _ _ (omega arith) (few_if (c == 1) _ _ (omega arith) (few_if (c == 2) _ _ (omega arith) (few_if (c == 3) _ _ (omega arith) (omega arith))))

marked_few : (last : Bool) (d c : ℕ) (text : List ℕ) → length text < 255 → marks_owe (if last then marker (text ++ c ∷ []) ∷ ends_of d else []) ≤ 600
marked_few true d c text short = omega (arith, length-append text (c ∷ []), short, ends_owe d)
marked_few false d c text short = omega arith

marking_few : (room : Bool) (d left c : ℕ) (text : List ℕ) → (is_marker_octet c && nat_lt (length text) 255) ≡ room
    → marks_owe (if room then (if left == 1 then marker (text ++ c ∷ []) ∷ ends_of d else []) else []) ≤ 600
marking_few true d left c text is = marked_few (left == 1) d c text (ltb-true (length text) 255 (and_parts (is_marker_octet c) _ is).1)
marking_few false d left c text is = omega arith

place_few : (place : Place) (c : ℕ) → marks_owe (place_out place c) ≤ 600
place_few plain c = omega arith
place_few outside c = few_if (c == 255) _ _ (omega arith) (omega arith)
place_few escaped c = code_few c
place_few at_head c = omega arith
place_few (at_high d) c = omega arith
place_few (at_low d high) c = few_if (has d RESTART_MARKER) _ _ (omega arith) (few_if (block_count high c == 0) _ _ (omega (arith, ends_owe d)) (omega arith))
place_few (inside d left) c = few_if (left == 1) _ _ (omega (arith, ends_owe d)) (omega arith)
place_few (marking d left text) c = marking_few (is_marker_octet c && nat_lt (length text) 255) d left c text refl
place_few passed c = omega arith

read_few : (reading : Reads) (c : ℕ) → marks_owe (read_out reading c) ≤ 600
read_few (going n place) c = place_few place c
read_few (failed fault) c = omega arith

mark_room : (text : List ℕ) (held : ℕ) → held < 10 ^ 18 → length (reply_octets (mark_reply text held)) ≤ 90 + 2 * length text
mark_room text held few =
    let said : List ℕ = codes "MARK " ++ (text ++ (codes " = " ++ decimal held)) in
    omega (
      arith,
      lines_short (last_line 110 said ∷ []),
      length-append (codes "MARK ") (text ++ (codes " = " ++ decimal held)),
      length-append text (codes " = " ++ decimal held),
      length-append (codes " = ") (decimal held),
      (decimal_fits held few).short,
    )

-- what is said changes the data connection and what is owed, and nothing else
said_erased : (connection : ServerLink Transfer) (said : Said) (v : View) → erased (takes_said connection said v) ≡ erased v
said_erased (Data.Transferring (Transfers.Upload path keep d)) (says sign) v = refl
said_erased (Data.Transferring (Transfers.Upload path keep d)) (marker text) v = refl
said_erased (Data.Transferring Transfers.OverLimit) said v = refl
said_erased (Data.Transferring (Transfers.Download rest)) said v = refl
said_erased (Data.Transferring (Transfers.Listing rest)) said v = refl
said_erased Data.Free said v = refl
said_erased (Data.Active endpoint) said v = refl
said_erased (Data.Asked asked) said v = refl
said_erased Data.Passive said v = refl
said_erased (Data.Opening transfer way) said v = refl
said_erased Data.Ready said v = refl

all_erased : (said : List Said) (v : View) → erased (takes_all said v) ≡ erased v
all_erased [] v = refl
all_erased (said ∷ more) v = all_erased more (takes_said v.session.connection said v) ∙ said_erased v.session.connection said v

one_owes : (connection : ServerLink Transfer) (said : Said) (v : View) → IsShortConnection connection → length (takes_said connection said v).owed ≤ length v.owed + marks_owe (said ∷ [])
one_owes (Data.Transferring (Transfers.Upload path keep d)) (says sign) v short = omega arith
one_owes (Data.Transferring (Transfers.Upload path keep d)) (marker text) v short =
    omega (arith, length-append v.owed (reply_octets (mark_reply text (kept_count keep + length d.content))), mark_room text (kept_count keep + length d.content) (omega (arith, short)))
one_owes (Data.Transferring Transfers.OverLimit) said v short = omega arith
one_owes (Data.Transferring (Transfers.Download rest)) said v short = omega arith
one_owes (Data.Transferring (Transfers.Listing rest)) said v short = omega arith
one_owes Data.Free said v short = omega arith
one_owes (Data.Active endpoint) said v short = omega arith
one_owes (Data.Asked asked) said v short = omega arith
one_owes Data.Passive said v short = omega arith
one_owes (Data.Opening transfer way) said v short = omega arith
one_owes Data.Ready said v short = omega arith

cons_owes : (said : Said) (more : List Said) → marks_owe (said ∷ more) ≡ marks_owe (said ∷ []) + marks_owe more
cons_owes (says sign) more = omega arith
cons_owes (marker text) more = omega arith

all_owe : (said : List Said) (v : View) → IsShort v → length (takes_all said v).owed ≤ length v.owed + marks_owe said
all_owe [] v k = omega arith
all_owe (said ∷ more) v k =
    let w : View = takes_said v.session.connection said v in
    omega (arith, all_owe more w (said_short v.session.connection said v refl k), one_owes v.session.connection said v k.session.connection, cons_owes said more)

upload_fails : (connection : ServerLink Transfer) (octet : ℕ) (v w : View) → v.session.connection ≡ connection → UploadFails connection octet v w → length v.owed ≤ 4096 → IsSmall v → IsSmall w
upload_fails (Data.Transferring (Transfers.Upload path keep d)) octet v w is (taken, rest, same, lost) few k =
    let c : ServerLink Transfer = Data.Transferring (Transfers.Upload path keep (read_on d octet)) in
    let y : View = with_connection c v in
    let short = moves_short c v (subst IsShortConnection is k.short.session.connection) k.short in
    let x : View = takes_all taken y in
    let owes : marks_owe taken ≤ 600 = omega (arith, front_owes taken rest, ap marks_owe same, read_few d.reading octet) in
    late_small (faulted x) w lost.1 (faulted_small v x (all_erased taken y) (omega (arith, all_owe taken y short, owes, few)) (all_short taken y short) k)
upload_fails (Data.Transferring Transfers.OverLimit) octet v w is lost few k = absurd lost
upload_fails (Data.Transferring (Transfers.Download rest)) octet v w is lost few k = absurd lost
upload_fails (Data.Transferring (Transfers.Listing rest)) octet v w is lost few k = absurd lost
upload_fails (Data.Opening transfer way) octet v w is lost few k = absurd lost
upload_fails (Data.Asked asked) octet v w is lost few k = absurd lost
upload_fails (Data.Active endpoint) octet v w is lost few k = absurd lost
upload_fails Data.Free octet v w is lost few k = absurd lost
upload_fails Data.Passive octet v w is lost few k = absurd lost
upload_fails Data.Ready octet v w is lost few k = absurd lost

pub received_small : (v w : View) (octet : ℕ) → may_receive v ≡ true → OctetIsReceived v octet w → IsSmall v → IsSmall w
received_small v w octet may (inl is) k = subst IsSmall (sym is) (receives_small v octet may k)
received_small v w octet may (inr lost) k = by v.session.closing lost
  where
    by : (b : Bool) → UploadFails (if b then Data.Free else v.session.connection) octet v w → IsSmall w
    by true lost = absurd lost
    by false lost = upload_fails v.session.connection octet v w refl lost (leb-true (length v.owed) 4096 (and_parts (is_upload (connection_of v.session)) (has_room v) may).1) k

-- ---- a control octet that is lost

waits_small : (heard : HeardLine (List ℕ)) (v : View) → CanBeHeard heard → waiting_len (Some heard) ≤ 2048 → IsSmall v → IsSmall (record v { waiting = Some heard })
waits_small heard v said few k = record {
  keeps = record { accounts = k.keeps.accounts; host = k.keeps.host; session = k.keeps.session; waiting = said; owed = k.keeps.owed };
  short = record { session = k.short.session; reading = k.short.reading; waiting = few };
}

acting_fails : (is : Bool) (heard : HeardLine (List ℕ)) (v w : View) → ActingFails is heard v w → CanBeHeard heard → waiting_len (Some heard) ≤ 2048 → length v.owed ≤ 4096 → IsSmall v → IsSmall w
acting_fails true heard v w lost said short few k = abort_fails v.session.connection v w lost few k
acting_fails false heard v w lost said short few k = late_small (record v { waiting = Some heard }) w lost (waits_small heard v said short k)

reading_fails : (heard : HeardLine (List ℕ)) (v w : View) → ReadingFails heard v w → IsSmall v → IsSmall w
reading_fails (Asks c) v w lost k =
    let x : View = record v { waiting = Some (Bad Faults.Memory) } in
    late_small x w (inl lost.1) (waits_small (Bad Faults.Memory) v tt (omega arith) k)
reading_fails TooLong v w lost k = absurd lost
reading_fails (Bad fault) v w lost k = absurd lost

-- a line whose own outcome is small
line_heard : (heard : HeardLine (List ℕ)) (v w : View) → LineIsHeard heard v w → IsSmall (heard_line heard v) → CanBeHeard heard → waiting_len (Some heard) ≤ 2048 → length v.owed ≤ 4096 → IsSmall v → IsSmall w
line_heard heard v w (as_ever is) done said short few k = subst IsSmall (sym is) done
line_heard heard v w (not_read lost) done said short few k = reading_fails heard v w lost k
line_heard heard v w (not_done lost) done said short few k = acting_fails (is_abort heard v) heard v w lost said short few k

event_heard : (read : Reading) (event : NvtEvent) (v w : View) → IsReading read → EventIsHeard read event v w → IsSmall (heard_event read event v) → IsShortEvent line_limit event → length v.owed ≤ 4096 → IsSmall v → IsSmall w
event_heard read (line text) v w reading is done short few k =
    line_heard (read text) v w is done (read_can_be_heard text (read text) (reading text)) (heard_short text (read text) short (reading text)) few k
event_heard read too_long v w reading is done short few k = line_heard TooLong v w is done tt (omega arith) few k
event_heard read (owed answer) v w reading is done short few k = subst IsSmall (sym is) done

pub heard_small : (read : Reading) (v w : View) (octet : ℕ) → IsReading read → may_hear v ≡ true → OctetIsHeard read v octet w → IsSmall v → IsSmall w
unfolding hears_octet
heard_small read v w octet reading may is k =
    let few = leb-true (length v.owed) 4096 (and_parts _ (has_room v) may).1 in
    let u : View = record v { ear = ear_step line_limit v.ear octet } in
    let small : IsSmall u = record {
      keeps = record { accounts = k.keeps.accounts; host = k.keeps.host; session = k.keeps.session; waiting = k.keeps.waiting; owed = k.keeps.owed };
      short = record { session = k.short.session; reading = ear_short line_limit v.ear octet k.short.reading; waiting = k.short.waiting };
    } in
    let P : List NvtEvent → Type 0 = λ events. IsSmall (heard_events read events u) → AreShortEvents line_limit events → EventsAreHeard read events u w → IsSmall w in
    (elim (out_one line_limit v.ear octet) as (λ _. P (ear_out line_limit v.ear octet)) [
      | inl e ↦ subst P (sym e) (λ done short heard. subst IsSmall (sym heard) small)
      | inr e ↦ subst P (sym e.1) (λ done short heard. subst IsSmall (sym heard.2) (event_heard read e.0 u heard.0 reading heard.1 done short.0 few small))
    ]) (hears_small read v octet reading may k) (ear_says line_limit v.ear octet k.short.reading) is
