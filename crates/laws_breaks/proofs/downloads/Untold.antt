-- A client of a download that was told of the break of its link before its final reply: it is as one that was not told, but for that link; so it stays, as both
-- hear octets.
use Rattle.std.proofs.Common.{◌≡◌, inl, inr, ℕ, Bool, true, false, true≢false, List, [], ◌∷◌, ◌++◌, take, drop, Option, None, refl, sym, ap, subst, ◌∙◌, take-append-drop}
use Rattle.ftp_ends.specs.declared.link.Wants.TheVariants as Want
use Rattle.ftp_operation.specs.declared.op.Op.{Op}
use Rattle.ftp_wire.specs.Decoder.{Decoder}
use Rattle.ftp_client_model.specs.Calls as near
use Rattle.ftp_client_model.specs.Calls.{data_fault, hears, is_busy, may_hear, report_of}
use Rattle.ftp_client_model.specs.View.{Doing, Idle, Job, Told, Transferring, View as Near, Waiting}
use Rattle.ftp_client_model.specs.declared.client.ClientLink.TheVariants as NearData
use Rattle.ftp_client_model.specs.declared.client.Ending.TheVariants as Endings
use Rattle.ftp_client_model.specs.declared.client.Replied.{Replied}
use Rattle.ftp_client_model.specs.declared.client.Replied.TheVariants as Replies
use Rattle.laws_breaks.specs.downloads.Claims.{ReportAlike}
use Rattle.laws_breaks.specs.downloads.Actions.{HasRead, HasTaken, IsShort}
use Rattle.laws_breaks.specs.downloads.Late.{downloading}
use Rattle.laws_breaks.proofs.downloads.Faults.{Loads}
use Rattle.laws_breaks.proofs.downloads.Feeding.{is_final}
use Rattle.laws_breaks.proofs.downloads.Late.{IsFew, IsOver, Turns, down, final_lost, hears_over, hears_turns, is_told, lost}

-- it takes octets of a download, of which it has not as many as were asked for, and its final reply is not in
pub record Loading (n : Near) : Type 0 where
  pub op : Op (List ℕ)
  pub replied : Replied
  pub decoder : Decoder
  pub few : IsFew op decoder
  pub mark : Option ℕ
  pub near : n ≡ downloading op replied decoder mark n
  pub unfinal : is_final replied ≡ false

-- so is one of which the final reply is not in
pub loading_of : (n : Near) (l : Loads n) → is_final l.replied ≡ false → Loading n
loading_of n l unfinal =
    record { op = l.op; replied = l.replied; decoder = l.decoder; few = l.few; mark = l.mark; near = l.near; unfinal = unfinal }

pub loads_of : (n : Near) → Loading n → Loads n
loads_of n l = record { op = l.op; replied = l.replied; decoder = l.decoder; few = l.few; mark = l.mark; near = l.near }

-- once it was told of the break
abbrev pub told : Near → Near
told n = record n { connection = NearData.Over Endings.Broken }

lost_told : (op : Op (List ℕ)) (replied : Replied) (d : Decoder) (mark : Option ℕ) (n : Near) → is_final replied ≡ false
    → lost op replied d mark n ≡ told (down op replied d mark n)
lost_told op Replies.Nothing d mark n unfinal = refl
lost_told op Replies.Begun d mark n unfinal = refl
lost_told op (Replies.Final code) d mark n unfinal = absurd (true≢false unfinal)

pub fault_told : (n : Near) → Loading n → data_fault n ≡ told n
unfolding data_fault
fault_told n l =
    ap data_fault l.near ∙ lost_told l.op l.replied l.decoder l.mark n l.unfinal ∙ ap told (sym l.near)

-- ---- what it wants

pub loading_wants : (n : Near) → Loading n → near.wants n ≡ Want.Receive
unfolding near.wants
loading_wants n l = ap near.wants l.near

pub told_wants : (n : Near) → Loading n → near.wants (told n) ≡ Want.Nothing
unfolding near.wants
told_wants n l = ap (λ v. near.wants (told v)) l.near

-- less came of it than was asked for
pub loading_short : (n : Near) → Loading n → IsShort n.job
loading_short n l = subst (λ (v : Near). IsShort v.job) (sym l.near) (l.few l.mark)

pub told_busy : (n : Near) → Loading n → is_busy n ≡ true
told_busy n l = ap is_busy l.near

pub told_none : (n : Near) → Loading n → report_of n ≡ None
told_none n l = ap report_of l.near

pub told_open : (n : Near) → Loading n → n.closing ≡ false
told_open n l = ap (λ (v : Near). v.closing) l.near

-- its report is none, and it wants no close
pub told_reports : (n : Near) → Loading n → near.reports (told n) ≡ told n
told_reports n l = ap (λ v. near.reports (told v)) l.near ∙ ap told (sym l.near)

pub told_closed : (n : Near) → Loading n → near.data_closed (told n) ≡ told n
told_closed n l = ap (λ v. near.data_closed (told v)) l.near ∙ ap told (sym l.near)

-- it has no report, and it is lost where the control connection ends, as one that was not told
pub told_alike : (n : Near) → Loading n → ReportAlike (told n) n
unfolding near.control_end
told_alike n l = (
  ap (λ v. report_of (told v)) l.near ∙ sym (ap report_of l.near),
  ap (λ v. report_of (near.control_end (told v))) l.near ∙ sym (ap (λ v. report_of (near.control_end v)) l.near),
)

-- once it said octets
pub loading_says : (n : Near) (count : ℕ) → Loading n → Loading (near.gives_control count n)
loading_says n count l = record {
  op = l.op;
  replied = l.replied;
  decoder = l.decoder;
  few = l.few;
  mark = l.mark;
  near = ap (λ (v : Near). record v { owed = drop count n.owed }) l.near;
  unfinal = l.unfinal;
}

-- ---- what both hear

hears_both : (front given : List ℕ) (n : Near) → hears n (front ++ given) ≡ hears (hears n front) given
hears_both [] given n = refl
hears_both (octet ∷ front) given n = hears_both front given (near.hears_octet n octet)

abbrev is_final_job : Job → Bool
is_final_job (Transferring op transfer) = is_final transfer.replied
is_final_job job = true

-- one that takes octets then has no answer
not_over : (n : Near) → Loading n → IsOver n → ⊥
not_over n l o = true≢false (sym o.told ∙ ap (λ (v : Near). is_told v.job) l.near)

-- no more came as it heard
pub heard_short : (n : Near) → Loading n → (octets : List ℕ) → IsShort (hears n octets).job
heard_short n l octets = by (hears_turns l.op octets l.replied n)
  where
    over : (job : Job) → is_told job ≡ true → IsShort job
    over (Told answer) told = tt
    over Idle told = tt
    over (Waiting op) told = tt
    over (Doing op step) told = tt
    over (Transferring op transfer) told = absurd (true≢false (sym told))

    by : Turns l.op (λ v. hears v octets) l.replied n → IsShort (hears n octets).job
    by (inl stops) = subst (λ (v : Near). IsShort (hears v octets).job) (sym l.near) (over _ (stops l.decoder l.few l.mark).told)
    by (inr g) = subst (λ (v : Near). IsShort v.job) (sym (ap (λ v. hears v octets) l.near ∙ g.stays l.decoder l.few l.mark)) (l.few l.mark)

module _ (n : Near) (l : Loading n) (octets : List ℕ) (then_loads : Loading (hears n octets)) where
  -- so is one that was told
  pub told_hears : hears (told n) octets ≡ told (hears n octets)
  told_hears = by (hears_turns l.op octets l.replied n)
    where
      by : Turns l.op (λ v. hears v octets) l.replied n → hears (told n) octets ≡ told (hears n octets)
      by (inl stops) =
          absurd (not_over (hears n octets) then_loads (subst (λ v. IsOver (hears v octets)) (sym l.near) (stops l.decoder l.few l.mark)))
      by (inr g) =
          let is : hears n octets ≡ down l.op g.next l.decoder l.mark g.last = ap (λ v. hears v octets) l.near ∙ g.stays l.decoder l.few l.mark in
          let unfinal : is_final g.next ≡ false =
          ap (λ (v : Near). is_final_job v.job) (sym is) ∙ ap (λ (v : Near). is_final_job v.job) then_loads.near ∙ then_loads.unfinal in
          ap (λ v. hears (told v) octets) l.near
          ∙ ap (λ v. hears v octets) (sym (lost_told l.op l.replied l.decoder l.mark n l.unfinal)) ∙ g.breaks l.decoder l.few l.mark
          ∙ lost_told l.op g.next l.decoder l.mark g.last unfinal ∙ ap told (sym is)

  -- it has taken what it had
  pub hears_taken : (came : ℕ) → HasTaken (hears n octets).job came → HasTaken n.job came
  hears_taken came has = by (hears_turns l.op octets l.replied n)
    where
      by : Turns l.op (λ v. hears v octets) l.replied n → HasTaken n.job came
      by (inl stops) =
          absurd (not_over (hears n octets) then_loads (subst (λ v. IsOver (hears v octets)) (sym l.near) (stops l.decoder l.few l.mark)))
      by (inr g) =
          let is : hears n octets ≡ down l.op g.next l.decoder l.mark g.last = ap (λ v. hears v octets) l.near ∙ g.stays l.decoder l.few l.mark in
          let read : HasRead l.decoder came = subst (λ (v : Near). HasTaken v.job came) is has in
          subst (λ (v : Near). HasTaken v.job came) (sym l.near) read

  -- each octet may be heard by both alike
  pub told_may : (k : ℕ) → may_hear (hears n (take k octets)) ≡ may_hear (hears (told n) (take k octets))
  told_may k = by (hears_turns l.op front l.replied n)
    where
      front : List ℕ
      front = take k octets

      whole : hears n octets ≡ hears (hears n front) (drop k octets)
      whole = ap (hears n) (sym (take-append-drop k octets)) ∙ hears_both front (drop k octets) n

      may_lost : (replied : Replied) (m : Near)
          → may_hear (down l.op replied l.decoder l.mark m) ≡ may_hear (lost l.op replied l.decoder l.mark m)
      may_lost Replies.Nothing m = refl
      may_lost Replies.Begun m = refl
      may_lost (Replies.Final code) m = sym (ap may_hear (final_lost l.op code l.decoder l.few l.mark m))

      by : Turns l.op (λ v. hears v front) l.replied n → may_hear (hears n front) ≡ may_hear (hears (told n) front)
      by (inl stops) =
          absurd (not_over (hears n octets) then_loads (subst IsOver (sym whole)
          (hears_over (drop k octets) (hears n front) (subst (λ v. IsOver (hears v front)) (sym l.near) (stops l.decoder l.few l.mark)))))
      by (inr g) =
          ap (λ v. may_hear (hears v front)) l.near ∙ ap may_hear (g.stays l.decoder l.few l.mark) ∙ may_lost g.next g.last
          ∙ sym (ap may_hear (g.breaks l.decoder l.few l.mark))
          ∙ ap (λ v. may_hear (hears v front)) (lost_told l.op l.replied l.decoder l.mark n l.unfinal)
          ∙ ap (λ v. may_hear (hears (told v) front)) (sym l.near)
