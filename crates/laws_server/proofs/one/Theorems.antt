-- A server is small at the start and after every call, and so it never holds much.
use Rattle.std.proofs.Common.{◌≡◌, ℕ, suc, List, [], ◌∷◌, Bool, true, false, refl, arith, take}
use Rattle.std.specs.Prelude.{if◌then◌else◌}
use Rattle.ftp_server_model.specs.Calls.{clocked, gives_control, listening, listen_refused, data_opened, data_refused, gives_data, data_end, data_fault, data_closed, may_receive, receives, receives_octet, to_give, clock_step, control_step, listening_step, no_port_step, opened_step, refused_step, end_step, break_step, close_step, given_step}
use Rattle.ftp_server_model.specs.Held.{AreTypedCues, HoldsLittle}
use Rattle.ftp_server_model.specs.Kept.{CanTell}
use Rattle.ftp_server_model.specs.Machine.{Reading, IsReading, hears, hears_octet, may_hear}
use Rattle.ftp_server_model.specs.Play.{Cue, Clock, Hear, ControlOut, ControlEnd, Listening, DataOpened, DataHear, DataOut, ListenRefused, DataRefused, DataEnd, DataFault, DataClosed, AsksWants, call, left_by, most_given, most_heard, most_received}
use Rattle.ftp_server_model.specs.View.{Transfer, View, line_limit}
use Rattle.ftp_server_model.specs.declared.session.ServerLink.{ServerLink}
use Rattle.ftp_server_model.specs.declared.session.ServerLink.TheVariants as Data
use Rattle.ftp_server_model.specs.declared.session.Transfer.TheVariants as Transfers
use Rattle.ftp_server_model.proofs.CallLemmas.{each_call_keeps, start_keeps}
use Rattle.ftp_server_model.proofs.HeldLemmas.{keeps_little}
use Rattle.ftp_server_model.proofs.UploadLemmas.{upload_octet_keeps}
use Rattle.laws_server.specs.one.Laws.{CallsStaySmall, SmallHoldsLittle, StartIsSmall}
use Rattle.laws_server.specs.one.Small.{IsShortConnection, IsSmall}
use Rattle.ftp_ends.proofs.ReadLemmas.{none_short}
use Rattle.laws_server.proofs.one.ViewLemmas.{break_step_short, clock_short, close_short, control_end_short, control_short, end_step_short, given_short, hears_short, later_short, listening_short, no_port_short, opened_short, receives_short, refused_short}

-- ---- octets

pub hears_small : (read : Reading) (v : View) (octet : ℕ) → IsReading read → may_hear v ≡ true → IsSmall v → IsSmall (hears_octet read v octet)
hears_small read v octet reading may k = record { keeps = (each_call_keeps v k.keeps).hear read octet reading may; short = hears_short read v octet reading k.short }

-- the octets that an upload holds can be told
can_tell : (connection : ServerLink Transfer) → IsShortConnection connection → CanTell connection
can_tell (Data.Transferring (Transfers.Upload path keep d)) short = omega (arith, short)
can_tell (Data.Transferring Transfers.OverLimit) short = tt
can_tell (Data.Transferring (Transfers.Download rest)) short = tt
can_tell (Data.Transferring (Transfers.Listing rest)) short = tt
can_tell (Data.Opening transfer way) short = tt
can_tell (Data.Asked asked) short = tt
can_tell (Data.Active endpoint) short = tt
can_tell Data.Free short = tt
can_tell Data.Passive short = tt
can_tell Data.Ready short = tt

pub receives_small : (v : View) (octet : ℕ) → may_receive v ≡ true → IsSmall v → IsSmall (receives_octet v octet)
receives_small v octet may k =
    record { keeps = upload_octet_keeps v octet k.keeps may (can_tell v.session.connection k.short.session.connection); short = receives_short v octet k.short }

heard_small : (read : Reading) (octets : List ℕ) (v : View) → IsReading read → IsSmall v → IsSmall (hears read v (take (most_heard read v octets) octets))
heard_small read [] v reading k = k
heard_small read (octet ∷ octets) v reading k = by_test (may_hear v) refl (λ may. heard_small read octets (hears_octet read v octet) reading (hears_small read v octet reading may k))
  where
    by_test : (b : Bool) → may_hear v ≡ b → (may_hear v ≡ true → IsSmall (hears read (hears_octet read v octet) (take (most_heard read (hears_octet read v octet) octets) octets)))
        → IsSmall (hears read v (take (if b then suc (most_heard read (hears_octet read v octet) octets) else 0) (octet ∷ octets)))
    by_test true may more = more may
    by_test false may more = k

received_small : (octets : List ℕ) (v : View) → IsSmall v → IsSmall (receives v (take (most_received v octets) octets))
received_small [] v k = k
received_small (octet ∷ octets) v k = by_test (may_receive v) refl (λ may. received_small octets (receives_octet v octet) (receives_small v octet may k))
  where
    by_test : (b : Bool) → may_receive v ≡ b → (may_receive v ≡ true → IsSmall (receives (receives_octet v octet) (take (most_received (receives_octet v octet) octets) octets)))
        → IsSmall (receives v (take (if b then suc (most_received (receives_octet v octet) octets) else 0) (octet ∷ octets)))
    by_test true may more = more may
    by_test false may more = k

-- ---- calls

pub calls_stay_small : CallsStaySmall
unfolding clocked gives_control listening listen_refused data_opened data_refused gives_data data_end data_fault data_closed
calls_stay_small read (Clock moment) v reading typed k =
    record { keeps = (each_call_keeps v k.keeps).clock moment; short = later_short (clock_step moment v) (clock_short moment v k.short) }
calls_stay_small read (Hear octets) v reading typed k = heard_small read octets v reading k
calls_stay_small read (ControlOut room) v reading typed k =
    let count : ℕ = most_given room v.owed in
    record { keeps = (each_call_keeps v k.keeps).control count; short = later_short (control_step count v) (control_short count v k.short) }
calls_stay_small read ControlEnd v reading typed k = record { keeps = (each_call_keeps v k.keeps).control_ended; short = control_end_short v k.short }
calls_stay_small read (Listening port) v reading typed k =
    record { keeps = (each_call_keeps v k.keeps).listened port typed; short = later_short (listening_step port v) (listening_short port v k.short) }
calls_stay_small read ListenRefused v reading typed k = record { keeps = (each_call_keeps v k.keeps).no_port; short = later_short (no_port_step v) (no_port_short v k.short) }
calls_stay_small read (DataOpened host) v reading typed k =
    record { keeps = (each_call_keeps v k.keeps).opened host; short = later_short (opened_step host v) (opened_short host v k.short) }
calls_stay_small read DataRefused v reading typed k = record { keeps = (each_call_keeps v k.keeps).refused; short = later_short (refused_step v) (refused_short v k.short) }
calls_stay_small read (DataHear octets) v reading typed k = received_small octets v k
calls_stay_small read (DataOut room) v reading typed k =
    let count : ℕ = most_given room (to_give v) in
    record { keeps = (each_call_keeps v k.keeps).given count; short = later_short (given_step count v) (given_short count v k.short) }
calls_stay_small read DataEnd v reading typed k = record { keeps = (each_call_keeps v k.keeps).ended; short = later_short (end_step v) (end_step_short v k.short) }
calls_stay_small read DataFault v reading typed k = record { keeps = (each_call_keeps v k.keeps).broke; short = later_short (break_step v) (break_step_short v k.short) }
calls_stay_small read DataClosed v reading typed k = record { keeps = (each_call_keeps v k.keeps).closed; short = later_short (close_step v) (close_short v k.short) }
calls_stay_small read AsksWants v reading typed k = k

pub start_is_small : StartIsSmall
start_is_small table accounts here peer within typed files = record {
  keeps = start_keeps table accounts here peer within typed;
  short = record { session = record { files = files; connection = tt }; reading = none_short line_limit; waiting = omega arith };
}

pub small_holds_little : SmallHoldsLittle
small_holds_little stored v may k = keeps_little stored v may k.keeps (omega (arith, k.short.reading.text, k.short.reading.count)) k.short.waiting

left_small : (read : Reading) (cues : List Cue) (v : View) → IsReading read → AreTypedCues cues → IsSmall v → IsSmall (left_by read cues v)
unfolding left_by
left_small read [] v reading typed k = k
left_small read (cue ∷ cues) v reading typed k = left_small read cues (call read cue v).1 reading typed.1 (calls_stay_small read cue v reading typed.0 k)

pub holds_little : HoldsLittle
holds_little read table accounts here peer cues stored reading within typed files ports may =
    small_holds_little stored _ may (left_small read cues _ reading ports (start_is_small table accounts here peer within typed files))
