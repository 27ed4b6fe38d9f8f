-- A client stays fit with each call of `Near`, whatever is refused.
use Rattle.std.proofs.Common.{◌≡◌, ◌≢◌, ℕ, zero, suc, ◌⊎◌, inl, inr, List, [], ◌∷◌, sym, subst, ◌∙◌, arith, take, eqb-true, eq-eqb, true≢false}
use Rattle.std.specs.Prelude.{◌==◌}
use Rattle.ftp_nvt.proofs.CutLemmas.{decided as is_so}
use Rattle.ftp_client_model.specs.Calls.{MayHearFront, MayReceiveFront, control_end, data_closed, data_end, data_fault, data_opened, data_refused, gives_control, gives_data, hears, hears_octet, listen_refused, port_told, receives, receives_octet, reports, starts, uploads}
use Rattle.ftp_client_model.specs.Failing.{data_fault_short, data_refused_short, listen_refused_short, over_short, short, unopened_short, Client, HearsIfRoom, Holds, HoldsIfRoom, ReceivesIfRoom, data_end_short, data_opened_short, port_told_short, starts_short, uploads_short}
use Rattle.ftp_client_model.specs.Held.{Listening, DataOpened, DataEnd}
use Rattle.ftp_client_model.specs.Tries.{first_try}
use Rattle.ftp_client_model.specs.View.{View}
use Rattle.ftp_client_model.specs.declared.client.ClientLink.{ClientLink}
use Rattle.ftp_client_model.specs.declared.client.ClientLink.TheVariants as Data
use Rattle.ftp_client_model.specs.declared.client.Failure.TheVariants as Failures
use Rattle.ftp_client_model.specs.Fit.{IsFit}
use Rattle.ftp_client_model.specs.Losses.{NearStaysFit}
use Rattle.ftp_client_model.proofs.CallLemmas.{broke_fits, closed_fits, control_fits, ended_fits, gives_fits, hears_fits, opened_fits, port_told_fits, receives_fits, refused_fits, refused_port_fits, reports_fits, unless_fits}
use Rattle.ftp_client_model.proofs.DialogueLemmas.{fails_fits}
use Rattle.ftp_client_model.proofs.Theorems.{begun_short_fits, failed_fits, first_path, no_port_lost, over_short_fits, starts_fits, uploads_fits}

same_number : (m n : ℕ) → (m ≡ n) ⊎ (m ≢ n)
same_number m n =
    elim (is_so (m == n)) [
      | inl e ↦ inl (eqb-true m n e)
      | inr e ↦ inr (λ same. true≢false (sym (eq-eqb m n same) ∙ e))
    ]

-- a call that takes no memory, and one that may take some
holds_fits : (old new : Client) (view : View) → IsFit view → Holds old new view → IsFit new.view
holds_fits old new view k holds = subst IsFit (sym holds.0) k

room_fits : (old new : Client) (view lost : View) → IsFit view → IsFit lost → HoldsIfRoom old new view lost → IsFit new.view
room_fits old new view lost k its holds =
    elim (same_number new.refusals old.refusals) [
      | inl same ↦ subst IsFit (sym (holds.0 same)) k
      | inr other ↦ subst IsFit (sym (holds.1 other)) its
    ]

-- ---- where the next command of a run could not be made

unopened_by : (connection : ClientLink) (v : View) → IsFit v → IsFit (unopened_short connection v)
unopened_by (Data.Connecting endpoint) v k = fails_fits Failures.Memory v k
unopened_by (Data.Accepting port) v k = fails_fits Failures.Memory v k
unopened_by Data.Free v k = k
unopened_by Data.ListenWanted v k = k
unopened_by (Data.Listening port) v k = k
unopened_by Data.Open v k = k
unopened_by (Data.Over ending) v k = k

unopened_lost : (v : View) → IsFit v → IsFit (data_refused_short v)
unopened_lost v k = unless_fits (λ v. unopened_short v.connection v) v k (unopened_by v.connection v k)

fault_lost : (v : View) → IsFit v → IsFit (data_fault_short v)
fault_lost v k = unless_fits (λ v. over_short v.connection v) v k (over_short_fits v.connection v k)

-- octets, each of which may be taken when its turn comes
all_heard : (piece : List ℕ) (count : ℕ) (v : View) → MayHearFront v piece count → IsFit v → IsFit (hears v (take count piece))
all_heard piece zero v may k = k
all_heard [] (suc count) v may k = k
all_heard (octet ∷ piece) (suc count) v may k =
    all_heard piece count (hears_octet v octet) (λ n less. may (suc n) (omega (arith, less))) (hears_fits v octet (may 0 (omega arith)) k)

all_received : (piece : List ℕ) (count : ℕ) (v : View) → MayReceiveFront v piece count → IsFit v → IsFit (receives v (take count piece))
all_received piece zero v may k = k
all_received [] (suc count) v may k = k
all_received (octet ∷ piece) (suc count) v may k = all_received piece count (receives_octet v octet) (λ n less. may (suc n) (omega (arith, less))) (receives_fits v octet k)

heard_fits : (old new : Client) (piece : List ℕ) (count : ℕ) → IsFit old.view → HearsIfRoom old new piece count → IsFit new.view
heard_fits old new piece count k heard =
    elim (same_number new.refusals old.refusals) [
      | inl same ↦ let done = heard.0 same in subst IsFit (sym done.0) (all_heard piece count old.view done.1 k)
      | inr other ↦ let lost = heard.1 other in subst IsFit (sym lost.is) (fails_fits Failures.Memory (hears old.view (take lost.taken piece)) (all_heard piece lost.taken old.view lost.may k))
    ]

received_fits : (old new : Client) (piece : List ℕ) (count : ℕ) → IsFit old.view → ReceivesIfRoom old new piece count → IsFit new.view
received_fits old new piece count k heard =
    elim (same_number new.refusals old.refusals) [
      | inl same ↦ let done = heard.0 same in subst IsFit (sym done.0) (all_received piece count old.view done.1 k)
      | inr other ↦ let lost = heard.1 other in subst IsFit (sym lost.is) (fails_fits Failures.Memory (receives old.view (take lost.taken piece)) (all_received piece lost.taken old.view lost.may k))
    ]

pub near_stays_fit : NearStaysFit
unfolding control_end
near_stays_fit old new k =
    let v : View = old.view in
    record {
      begins = λ op idle holds. room_fits old new (starts op v) (starts_short op v) (starts_fits op v k idle) (begun_short_fits _ op v idle (λ can. tt) k) holds;
      begins_upload = λ u idle holds. room_fits old new (uploads u v) (uploads_short u v) (uploads_fits u v k idle) (begun_short_fits _ (first_try u) v idle (first_path u) k) holds;
      handed_back = λ holds. holds_fits old new v k holds;
      report = λ holds. holds_fits old new (reports v) (reports_fits v k) holds;
      hear = λ piece count heard. heard_fits old new piece count k heard;
      control_out = λ count holds. holds_fits old new (gives_control count v) (control_fits count v k) holds;
      control_ended = λ holds. holds_fits old new (control_end v) (fails_fits Failures.Lost v k) holds;
      listens = λ port small holds. room_fits old new (port_told port v) (port_told_short port v) (port_told_fits port v small k) (failed_fits (Listening port) v small k) holds;
      no_port = λ holds. room_fits old new (listen_refused v) (listen_refused_short v) (refused_port_fits v k) (no_port_lost v k) holds;
      opened = λ host holds. room_fits old new (data_opened host v) (data_opened_short v) (opened_fits host v k) (failed_fits (DataOpened host) v tt k) holds;
      refused = λ holds. room_fits old new (data_refused v) (data_refused_short v) (refused_fits v k) (unopened_lost v k) holds;
      received = λ piece count heard. received_fits old new piece count k heard;
      ended = λ holds. room_fits old new (data_end v) (data_end_short v) (ended_fits v k) (failed_fits DataEnd v tt k) holds;
      broke = λ holds. room_fits old new (data_fault v) (data_fault_short v) (broke_fits v k) (fault_lost v k) holds;
      gave = λ count holds. room_fits old new (gives_data count v) (short v) (gives_fits count v k) (fails_fits Failures.Memory v k) holds;
      closed = λ holds. holds_fits old new (data_closed v) (closed_fits v k) holds;
    }
