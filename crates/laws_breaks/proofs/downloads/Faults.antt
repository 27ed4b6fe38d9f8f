-- What a client holds that took octets of a download and is told of a break.
use Rattle.std.proofs.Common.{◌≡◌, ℕ, Bool, true, false, ◌&&◌, List, Option, None, refl, sym, ap, subst, ◌∙◌}
use Rattle.ftp_operation.specs.declared.op.Op.{Op}
use Rattle.ftp_wire.specs.Decoder.{Decoder}
use Rattle.ftp_client_model.specs.Calls.{data_fault}
use Rattle.ftp_client_model.specs.Dialogue.{aborts_once_enough, answers_by, answers_once_over, carries_on, closes_once_given_by, finishes_read, has_begun, is_given}
use Rattle.ftp_client_model.specs.Octets.{has_settled}
use Rattle.ftp_client_model.specs.Plan.{count_of}
use Rattle.ftp_client_model.specs.View.{Flow, Receiving, Transfer, Transferring, View as Near}
use Rattle.ftp_client_model.specs.declared.client.Abort.TheVariants as Aborts
use Rattle.ftp_client_model.specs.declared.client.ClientLink.TheVariants as Data
use Rattle.ftp_client_model.specs.declared.client.Ending.TheVariants as Endings
use Rattle.ftp_client_model.specs.declared.client.Replied.{Replied}
use Rattle.ftp_client_model.specs.declared.client.Replied.TheVariants as Replies
use Rattle.laws_breaks.specs.downloads.Actions.{HasRead, HasTaken}
use Rattle.laws_breaks.specs.downloads.Late.{downloading}
use Rattle.laws_breaks.proofs.downloads.Late.{IsFew, judges}
use Rattle.laws_drivers.proofs.events.Plain.{IsPlain, IsPlainBy, IsPlainJob}

-- it takes octets of a download, of which it has not as many as were asked for
pub record Loads (n : Near) : Type 0 where
  pub op : Op (List ℕ)
  pub replied : Replied
  pub decoder : Decoder
  pub few : IsFew op decoder
  pub mark : Option ℕ
  pub near : n ≡ downloading op replied decoder mark n

-- it has taken what its decoder has read
pub loads_taken : (n : Near) (l : Loads n) (came : ℕ) → HasRead l.decoder came → HasTaken n.job came
loads_taken n l came has = subst (λ (v : Near). HasTaken v.job came) (sym l.near) has

-- it stands as before, and wants no close
pub record Faulted (n u : Near) : Type 0 where
  pub standing : u.standing ≡ n.standing
  pub closing : u.closing ≡ false

module _ (op : Op (List ℕ)) (flow : Flow) (few : has_settled (count_of op) flow ≡ false) (n : Near) where
  -- its link is over
  abbrev at : Replied → Near
  at replied = record n {
    job = Transferring op (record { replied = replied; abort = Aborts.Unsent; flow = flow });
    run = None;
    connection = Data.Over Endings.Broken;
    closing = false;
  }

  given : (v : Near) (all : Bool) → closes_once_given_by all (Data.Over Endings.Broken) v ≡ v
  given v true = refl
  given v false = refl

  goes : (replied : Replied) → carries_on (at replied) ≡ answers_by replied Aborts.Unsent (Data.Over Endings.Broken) op flow (at replied)
  goes replied = ap (λ (c : Near). answers_once_over (aborts_once_enough c.job c)) (given (at replied) (has_begun replied && is_given flow))

  -- it waits for its final reply, or has its answer
  faults : (replied : Replied) → Faulted n (carries_on (at replied))
  faults Replies.Nothing = subst (Faulted n) (sym (goes Replies.Nothing)) (record { standing = refl; closing = refl })
  faults Replies.Begun = subst (Faulted n) (sym (goes Replies.Begun)) (record { standing = refl; closing = refl })
  faults (Replies.Final code) =
      let answer = judges op code flow few in
      subst (Faulted n) (sym (goes (Replies.Final code) ∙ ap (λ j. finishes_read j (at (Replies.Final code))) answer.1))
      (record { standing = refl; closing = refl })

  -- and stays plain, whatever is kept of its transfer
  faults_plain : (Kept : Op (List ℕ) → Transfer → Type 0) (replied : Replied) → IsPlain op
      → Kept op (record { replied = replied; abort = Aborts.Unsent; flow = flow }) → IsPlainBy Kept (carries_on (at replied))
  faults_plain Kept Replies.Nothing plain kept =
      subst (IsPlainBy Kept) (sym (goes Replies.Nothing)) (record { job = (plain, kept); port = refl; run = refl })
  faults_plain Kept Replies.Begun plain kept =
      subst (IsPlainBy Kept) (sym (goes Replies.Begun)) (record { job = (plain, kept); port = refl; run = refl })
  faults_plain Kept (Replies.Final code) plain kept =
      let answer = judges op code flow few in
      subst (IsPlainBy Kept) (sym (goes (Replies.Final code) ∙ ap (λ j. finishes_read j (at (Replies.Final code))) answer.1))
      (record { job = tt; port = refl; run = refl })

-- as it takes octets
abbrev loading : (n : Near) → Loads n → Near
loading n l = record n {
  job = Transferring l.op (record { replied = l.replied; abort = Aborts.Unsent; flow = Receiving l.decoder l.mark });
  run = None;
  connection = Data.Open;
  closing = false;
}

loading_is : (n : Near) (l : Loads n) → n ≡ loading n l
loading_is n l = λ i. record n { job = (l.near i).job; run = (l.near i).run; connection = (l.near i).connection; closing = (l.near i).closing }

pub faulted : (n : Near) → Loads n → Faulted n (data_fault n)
unfolding data_fault
faulted n l =
    subst (λ (v : Near). Faulted n (data_fault v)) (sym (loading_is n l)) (faults l.op (Receiving l.decoder l.mark) (l.few l.mark) n l.replied)

pub faulted_plain : (Kept : Op (List ℕ) → Transfer → Type 0) (n : Near) → Loads n → IsPlainBy Kept n → IsPlainBy Kept (data_fault n)
unfolding data_fault
faulted_plain Kept n l p =
    let plain : IsPlainJob Kept (loading n l).job = subst (λ (v : Near). IsPlainJob Kept v.job) (loading_is n l) p.job in
    subst (λ (v : Near). IsPlainBy Kept (data_fault v)) (sym (loading_is n l))
    (faults_plain l.op (Receiving l.decoder l.mark) (l.few l.mark) n Kept l.replied plain.0 plain.1)

-- one that is to close anyway is as before
pub closing_same : (n : Near) → n.closing ≡ true → data_fault n ≡ n
unfolding data_fault
closing_same n is = ap (λ c. data_fault (record n { closing = c })) is ∙ ap (λ c. record n { closing = c }) (sym is)
