-- A client that takes octets, and was not told of the break of its link, while the server was told and says 426: it holds what one holds that heard nothing of
-- that, but for what it heard. So it takes octets still, owes none and has no report.
use Rattle.std.proofs.Common.{◌≡◌, ℕ, Bool, true, false, true≢false, List, [], Option, None, refl, sym, ap, ◌∙◌}
use Rattle.ftp_ends.specs.declared.link.Wants.TheVariants as Want
use Rattle.ftp_operation.specs.declared.op.Op.{Op}
use Rattle.ftp_wire.specs.Decoder.{Decoder}
use Rattle.ftp_client_model.specs.Calls as near
use Rattle.ftp_client_model.specs.Calls.{data_fault, hears, is_busy, may_hear, may_receive, receives, report_of}
use Rattle.ftp_client_model.specs.Plan.{count_of}
use Rattle.ftp_client_model.specs.View.{Doing, Idle, Job, Receiving, Told, Transferring, View as Near, Waiting}
use Rattle.ftp_client_model.specs.declared.client.Abort.TheVariants as Aborts
use Rattle.ftp_client_model.specs.declared.client.Replied.{Replied}
use Rattle.ftp_client_model.specs.declared.client.Replied.TheVariants as Replies
use Rattle.laws_drivers.proofs.control.Taken.{idle_of, taken}
use Rattle.laws_breaks.specs.downloads.Claims.{ReportAlike}
use Rattle.laws_breaks.specs.downloads.Late.{downloading}
use Rattle.laws_breaks.proofs.downloads.Faults.{Loads}
use Rattle.laws_breaks.proofs.downloads.Late.{all_few, breaks_late, down, final_lost, hears_late, lost, takes}
use Rattle.laws_breaks.proofs.downloads.Rows.{Steady}

module _ (op : Op (List ℕ)) (d : Decoder) (mark : Option ℕ) (v : Near) (s : Steady op d mark v) where
  pub steady_wants : near.wants v ≡ Want.Receive
  unfolding near.wants
  steady_wants = ap near.wants s.is

  -- it wants no close
  pub steady_open : v.closing ≡ false
  steady_open = ap (λ (n : Near). n.closing) s.is

  -- it is at an operation
  pub steady_busy : is_busy v ≡ true
  steady_busy = ap is_busy s.is

  -- it has no report
  pub steady_none : report_of v ≡ None
  steady_none = ap report_of s.is

  -- it owes none
  pub steady_owes : v.owed ≡ []
  steady_owes = ap (λ (n : Near). n.owed) s.is ∙ s.owes

  -- nothing of it is taken with a report
  pub steady_reports : near.reports v ≡ v
  steady_reports = ap near.reports s.is ∙ sym s.is

-- and one that asks for all
module _ (op : Op (List ℕ)) (all : count_of op ≡ None) (d : Decoder) (mark : Option ℕ) (v : Near) (s : Steady op d mark v) where
  -- may hear, and so it may once it is told
  pub steady_may : may_hear v ≡ true
  steady_may = ap may_hear s.is ∙ ap (λ o. may_hear (record (downloading op s.replied d mark s.last) { owed = o })) s.owes

  may_lost : (replied : Replied) → may_hear (lost op replied d mark s.last) ≡ may_hear (down op replied d mark s.last)
  may_lost Replies.Nothing = refl
  may_lost Replies.Begun = refl
  may_lost (Replies.Final code) = ap may_hear (final_lost op code d (all_few op all d) mark s.last)

  pub steady_told : may_hear (data_fault v) ≡ true
  unfolding data_fault
  steady_told =
      ap (λ n. may_hear (data_fault n)) s.is ∙ may_lost s.replied ∙ ap (λ o. may_hear (record (downloading op s.replied d mark s.last) { owed = o })) s.owes

  -- it may take each octet
  pub steady_receives : (octets : List ℕ) → may_receive (receives v octets) ≡ true
  steady_receives octets = ap (λ n. may_receive (receives n octets)) s.is ∙ ap may_receive (takes op all octets s.replied d mark s.last)

  -- what it hears can come after octets, and after the break
  module _ (heard : List ℕ) (then_steady : Steady op d mark (hears v heard)) where
    late_wants : near.wants (hears (downloading op s.replied d mark s.last) heard) ≡ Want.Receive
    unfolding near.wants
    late_wants = ap (λ n. near.wants (hears n heard)) (sym s.is) ∙ ap near.wants then_steady.is

    -- octets
    pub late_octets : (came : List ℕ) → receives (hears v heard) came ≡ hears (receives v came) heard
    late_octets came =
        ap (λ n. receives (hears n heard) came) s.is ∙ hears_late op all s.replied d mark s.last heard came late_wants
        ∙ ap (λ n. hears (receives n came) heard) (sym s.is)

    -- the break
    pub late_break : data_fault (hears v heard) ≡ hears (data_fault v) heard
    late_break =
        ap (λ n. data_fault (hears n heard)) s.is ∙ breaks_late op all s.replied d mark s.last heard [] late_wants
        ∙ ap (λ n. hears (data_fault n) heard) (sym s.is)

-- two such ones are lost alike where the control connection ends
pub steady_alike : (op : Op (List ℕ)) (d : Decoder) (mark : Option ℕ) (v u : Near) → Steady op d mark v → Steady op d mark u → ReportAlike v u
unfolding near.control_end
steady_alike op d mark v u s t = (
  ap report_of s.is ∙ sym (ap report_of t.is),
  ap (λ n. report_of (near.control_end n)) s.is ∙ sym (ap (λ n. report_of (near.control_end n)) t.is),
)

-- ---- where a world's client takes octets

-- a drive's has no report
pub taken_loads : (v : Near) → Loads (taken v) → taken v ≡ v
taken_loads v l = by v.job (ap (λ (n : Near). n.job) l.near)
  where
    by : (job : Job) → idle_of job ≡ Transferring l.op (record { replied = l.replied; abort = Aborts.Unsent; flow = Receiving l.decoder l.mark })
        → record v { job = idle_of job } ≡ record v { job = job }
    by (Told answer) is = absurd (true≢false (sym (ap is_transfer is)))
      where
        is_transfer : Job → Bool
        is_transfer (Transferring op transfer) = true
        is_transfer job = false
    by Idle is = refl
    by (Waiting op) is = refl
    by (Doing op step) is = refl
    by (Transferring op transfer) is = refl
