-- A server stays small with each call of `Far` in which the device doesn't stray, whatever fails.
use Rattle.std.proofs.Common.{◌≡◌, ℕ, inl, inr, List, [], ◌∷◌, Bool, true, false, refl, sym, ap, subst, ◌∙◌, arith}
use Rattle.ftp_server_model.specs.Calls.{MayReceive, breaks, connection_of, ends, listening_turn, opens, port_opens, port_opens_for, refuses, takes_given, unheard, break_step, clock_step, clocked, close_step, control_step, data_closed, data_end, data_fault, data_opened, data_refused, end_step, given_step, gives_control, gives_data, listen_refused, listening, listening_step, no_port_step, opened_step, receives, receives_octet, refused_step}
use Rattle.ftp_server_model.specs.Failing.{AreHeard, AreReceived, EndFails, GiveFails, KeepsCourse}
use Rattle.ftp_server_model.specs.Far.{Acts, Hears, Receives, Server, Steps}
use Rattle.ftp_server_model.specs.Machine.{IsReading, MayHear, Reading, completed, given_out, turned, hears, hears_octet, later}
use Rattle.ftp_server_model.specs.View.{Transfer, View}
use Rattle.ftp_server_model.specs.Kept.{ServerKeeps}
use Rattle.ftp_server_model.specs.declared.session.Way.TheVariants as Ways
use Rattle.ftp_server_model.specs.declared.session.ServerLink.{ServerLink}
use Rattle.ftp_server_model.specs.declared.session.ServerLink.TheVariants as Data
use Rattle.ftp_server_model.specs.declared.session.Transfer.TheVariants as Transfers
use Rattle.ftp_ends.specs.Link.{same_host}
use Rattle.ftp_server_model.proofs.CallLemmas.{each_call_keeps}
use Rattle.ftp_server_model.proofs.CountLemmas.{same_counts}
use Rattle.ftp_server_model.proofs.LinesDecided.{reading_exists}
use Rattle.laws_server.specs.one.Losses.{FarStaysSmall}
use Rattle.laws_server.specs.one.Small.{IsShort, IsSmall}
use Rattle.laws_server.proofs.one.LossLemmas.{end_fails, give_fails, heard_small, late_by, received_small, silent, silent_small}
use Rattle.laws_server.proofs.one.Theorems.{hears_small, receives_small}
use Rattle.laws_server.proofs.one.ViewLemmas.{break_step_short, clock_short, close_short, control_end_short, control_short, end_step_short, given_short, later_short, listening_short, no_port_short, opened_short, refused_short}

-- ---- a step, where a line waits and where none does

listens_silent : (port : ℕ) (c : ServerLink Transfer) (v : View) → turned (listening_turn c v.context port v.session) (silent v) ≡ silent (turned (listening_turn c v.context port v.session) v)
listens_silent port c v = refl

unheard_silent : (c : ServerLink Transfer) (v : View) → unheard c (silent v) ≡ silent (unheard c v)
unheard_silent (Data.Asked asked) v = refl
unheard_silent Data.Free v = refl
unheard_silent (Data.Active endpoint) v = refl
unheard_silent Data.Passive v = refl
unheard_silent (Data.Opening transfer way) v = refl
unheard_silent Data.Ready v = refl
unheard_silent (Data.Transferring transfer) v = refl

given_out_silent : (c : ServerLink Transfer) (v : View) → given_out c (silent v) ≡ silent (given_out c v)
given_out_silent (Data.Transferring (Transfers.Download [])) v = refl
given_out_silent (Data.Transferring (Transfers.Listing [])) v = refl
given_out_silent (Data.Transferring (Transfers.Download (octet ∷ rest))) v = refl
given_out_silent (Data.Transferring (Transfers.Listing (octet ∷ rest))) v = refl
given_out_silent (Data.Transferring (Transfers.Upload path keep d)) v = refl
given_out_silent (Data.Transferring Transfers.OverLimit) v = refl
given_out_silent (Data.Asked asked) v = refl
given_out_silent (Data.Opening transfer way) v = refl
given_out_silent Data.Free v = refl
given_out_silent (Data.Active endpoint) v = refl
given_out_silent Data.Passive v = refl
given_out_silent Data.Ready v = refl

completed_silent : (one v : View) → one ≡ silent v → completed one ≡ silent (completed v)
completed_silent one v same = ap completed same ∙ given_out_silent v.session.connection v

port_silent : (b : Bool) (v : View) → port_opens b (silent v) ≡ silent (port_opens b v)
port_silent true v = refl
port_silent false v = refl

port_for_silent : (b : Bool) (transfer : Transfer) (v : View) → port_opens_for b transfer (silent v) ≡ silent (port_opens_for b transfer v)
port_for_silent true transfer v = refl
port_for_silent false transfer v = refl

opens_silent : (c : ServerLink Transfer) (b : Bool) (v : View) → opens c b (silent v) ≡ silent (opens c b v)
opens_silent Data.Passive b v = port_silent b v
opens_silent (Data.Opening transfer Ways.Accept) b v = port_for_silent b transfer v
opens_silent (Data.Opening transfer (Ways.Connect endpoint)) b v = refl
opens_silent Data.Free b v = refl
opens_silent (Data.Active endpoint) b v = refl
opens_silent (Data.Asked asked) b v = refl
opens_silent Data.Ready b v = refl
opens_silent (Data.Transferring transfer) b v = refl

refuses_silent : (c : ServerLink Transfer) (v : View) → refuses c (silent v) ≡ silent (refuses c v)
refuses_silent Data.Passive v = refl
refuses_silent (Data.Opening transfer way) v = refl
refuses_silent Data.Free v = refl
refuses_silent (Data.Active endpoint) v = refl
refuses_silent (Data.Asked asked) v = refl
refuses_silent Data.Ready v = refl
refuses_silent (Data.Transferring transfer) v = refl

ends_silent : (c : ServerLink Transfer) (v : View) → ends c (silent v) ≡ silent (ends c v)
ends_silent Data.Ready v = refl
ends_silent (Data.Transferring transfer) v = refl
ends_silent Data.Free v = refl
ends_silent (Data.Active endpoint) v = refl
ends_silent (Data.Asked asked) v = refl
ends_silent Data.Passive v = refl
ends_silent (Data.Opening transfer way) v = refl

breaks_silent : (c : ServerLink Transfer) (v : View) → breaks c (silent v) ≡ silent (breaks c v)
breaks_silent Data.Ready v = refl
breaks_silent (Data.Transferring transfer) v = refl
breaks_silent Data.Free v = refl
breaks_silent (Data.Active endpoint) v = refl
breaks_silent (Data.Asked asked) v = refl
breaks_silent Data.Passive v = refl
breaks_silent (Data.Opening transfer way) v = refl

takes_given_silent : (count : ℕ) (c : ServerLink Transfer) (v : View) → takes_given c count (silent v) ≡ silent (takes_given c count v)
takes_given_silent count (Data.Transferring (Transfers.Download rest)) v = refl
takes_given_silent count (Data.Transferring (Transfers.Listing rest)) v = refl
takes_given_silent count (Data.Transferring (Transfers.Upload path keep d)) v = refl
takes_given_silent count (Data.Transferring Transfers.OverLimit) v = refl
takes_given_silent count Data.Free v = refl
takes_given_silent count (Data.Active endpoint) v = refl
takes_given_silent count (Data.Asked asked) v = refl
takes_given_silent count Data.Passive v = refl
takes_given_silent count (Data.Opening transfer way) v = refl
takes_given_silent count Data.Ready v = refl

-- ---- a call is done, or something failed

-- what a step leaves short, and the limits that it keeps, where a line waits and where none does
record StepKeeps (step : View → View) (v : View) : Type 0 where
  pub same : step (silent v) ≡ silent (step v)
  pub keeps : ServerKeeps (later (step v))
  pub silent_keeps : ServerKeeps (later (step (silent v)))
  pub short : IsShort (step v)

steps_small : (Fails : View → View → Type 0) (step : View → View) (old new : Server) → KeepsCourse old.counts new.counts → StepKeeps step old.view
    → (Fails old.view new.view → IsSmall new.view) → Steps Fails step old new → IsSmall new.view
steps_small Fails step old new course k fails steps =
    let u : View = step old.view in
    let done : IsSmall (later u) = record { keeps = k.keeps; short = later_short u k.short } in
    let still : IsSmall (silent u) = record {
      keeps = subst (λ (x : View). ServerKeeps (later x)) k.same k.silent_keeps;
      short = record { session = k.short.session; reading = k.short.reading; waiting = omega arith };
    } in
    elim (same_counts new.counts old.counts) [
      | inl same ↦ subst IsSmall (sym (steps.done same)) done
      | inr other ↦ elim (steps.failed course other) [ inl lost ↦ fails lost | inr late ↦ late_by u new.view late done still ]
    ]

-- ---- octets

all_heard : (read : Reading) (octets : List ℕ) (v : View) → IsReading read → MayHear read v octets → IsSmall v → IsSmall (hears read v octets)
all_heard read [] v reading may k = k
all_heard read (octet ∷ octets) v reading may k = all_heard read octets (hears_octet read v octet) reading may.1 (hears_small read v octet reading may.0 k)

are_heard : (read : Reading) (octets : List ℕ) (v w : View) → IsReading read → AreHeard read v octets w → IsSmall v → IsSmall w
are_heard read [] v w reading is k = subst IsSmall (sym is) k
are_heard read (octet ∷ octets) v w reading is k = are_heard read octets is.1 w reading is.3 (heard_small read v is.1 octet reading is.0 is.2 k)

all_received : (octets : List ℕ) (v : View) → MayReceive v octets → IsSmall v → IsSmall (receives v octets)
all_received [] v may k = k
all_received (octet ∷ octets) v may k = all_received octets (receives_octet v octet) may.1 (receives_small v octet may.0 k)

are_received : (octets : List ℕ) (v w : View) → AreReceived v octets w → IsSmall v → IsSmall w
are_received [] v w is k = subst IsSmall (sym is) k
are_received (octet ∷ octets) v w is k = are_received octets is.1 w is.3 (received_small v is.1 octet is.0 is.2 k)

heard_all : (octets : List ℕ) (old new : Server) → KeepsCourse old.counts new.counts → Hears octets old new → IsSmall old.view → IsSmall new.view
heard_all octets old new course hears k =
    let read : Reading = reading_exists.0 in
    let reading = reading_exists.1 in
    let by = hears read reading in
    elim (same_counts new.counts old.counts) [
      | inl same ↦ subst IsSmall (sym (by.done same)) (all_heard read octets old.view reading (by.may same) k)
      | inr other ↦ are_heard read octets old.view new.view reading (by.failed course other) k
    ]

received_all : (octets : List ℕ) (old new : Server) → KeepsCourse old.counts new.counts → Receives octets old new → IsSmall old.view → IsSmall new.view
received_all octets old new course by k =
    elim (same_counts new.counts old.counts) [
      | inl same ↦ subst IsSmall (sym (by.done same)) (all_received octets old.view (by.may same) k)
      | inr other ↦ are_received octets old.view new.view (by.failed course other) k
    ]

-- ---- all calls

acts_small : (step : View → View) (old new : Server) → KeepsCourse old.counts new.counts → StepKeeps step old.view → Acts step old new → IsSmall new.view
acts_small step old new course k acts = steps_small (λ v w. ⊥) step old new course k (λ lost. absurd lost) acts

pub far_stays_small : FarStaysSmall
unfolding clocked gives_control listening listen_refused data_opened data_refused gives_data data_end data_fault data_closed
far_stays_small old new course k =
    let v : View = old.view in
    let s : View = silent v in
    let calls = each_call_keeps v k.keeps in
    let quiet = each_call_keeps s (silent_small v k).keeps in
    record {
      clock = λ moment is. acts_small (clock_step moment) old new course (record { same = refl; keeps = calls.clock moment; silent_keeps = quiet.clock moment; short = clock_short moment v k.short }) is;
      hear = λ octets is. heard_all octets old new course is k;
      control_out = λ count is. acts_small (control_step count) old new course (record { same = refl; keeps = calls.control count; silent_keeps = quiet.control count; short = control_short count v k.short }) is;
      control_ended = λ is. subst (λ (server : Server). IsSmall server.view) (sym is) (record { keeps = calls.control_ended; short = control_end_short v k.short });
      listens = λ port small is. acts_small (listening_step port) old new course
          (record { same = listens_silent port (connection_of v.session) v; keeps = calls.listened port small; silent_keeps = quiet.listened port small; short = listening_short port v k.short }) is;
      no_port = λ is. acts_small no_port_step old new course (record { same = unheard_silent (connection_of v.session) v; keeps = calls.no_port; silent_keeps = quiet.no_port; short = no_port_short v k.short }) is;
      opened = λ host is. acts_small (opened_step host) old new course (record {
        same = completed_silent (opens (connection_of v.session) (same_host host v.context.peer) s) (opens (connection_of v.session) (same_host host v.context.peer) v)
            (opens_silent (connection_of v.session) (same_host host v.context.peer) v);
        keeps = calls.opened host;
        silent_keeps = quiet.opened host;
        short = opened_short host v k.short;
      }) is;
      refused = λ is. acts_small refused_step old new course (record { same = refuses_silent (connection_of v.session) v; keeps = calls.refused; silent_keeps = quiet.refused; short = refused_short v k.short }) is;
      received = λ octets is. received_all octets old new course is k;
      ended = λ is. steps_small EndFails end_step old new course (record { same = ends_silent (connection_of v.session) v; keeps = calls.ended; silent_keeps = quiet.ended; short = end_step_short v k.short }) (λ lost. end_fails v new.view lost k) is;
      broke = λ is. steps_small EndFails break_step old new course (record { same = breaks_silent (connection_of v.session) v; keeps = calls.broke; silent_keeps = quiet.broke; short = break_step_short v k.short }) (λ lost. end_fails v new.view lost k) is;
      gave = λ count is. steps_small (GiveFails count) (given_step count) old new course (record {
        same = completed_silent (takes_given (connection_of v.session) count s) (takes_given (connection_of v.session) count v) (takes_given_silent count (connection_of v.session) v);
        keeps = calls.given count;
        silent_keeps = quiet.given count;
        short = given_short count v k.short;
      }) (λ lost. give_fails count v new.view lost k) is;
      closed = λ is. acts_small close_step old new course (record { same = refl; keeps = calls.closed; silent_keeps = quiet.closed; short = close_short v k.short }) is;
    }
