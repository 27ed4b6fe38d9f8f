-- A step, and then the line that waits.
use Rattle.std.proofs.Common.{◌≡◌, ◌≢◌, ◌⊎◌, inl, inr, ℕ, List, false, Option, Some, None, is_some, Result, Ok, Err, OnOk, OnErr, refl, sym, ap, subst, ◌∙◌, arith}
use Rattle.ftp_server_model.specs.Counting.{CountsOn}
use Rattle.ftp_server_model.specs.Failing.{AreHeard, Counts, KeepsCourse, Late}
use Rattle.ftp_server_model.specs.Far.{Acts, Hears, Server}
use Rattle.ftp_server.proofs.CountingLemmas.{same_counts, stayed}
use Rattle.ftp_server.specs.HearsTo.{AreHeardTo, HearsTo}
use Rattle.ftp_server.specs.Settled.{HasMoved}
use Rattle.ftp_tree.specs.Change.{IsSteady}
use Rattle.ftp_server_model.specs.Machine.{later, waited}
use Rattle.ftp_server_model.specs.View.{View}

pub acts : (step : View → View) (old mid new : Server) → mid.view ≡ step old.view → mid.counts ≡ old.counts → Acts (λ v. v) mid new → Acts step old new
acts step old mid new view counts a = record {
  done = λ same. a.done (same ∙ sym counts) ∙ ap later view;
  failed = λ course moved. inr (subst (λ v. Late v new.view) view (late (a.failed (subst (λ n. KeepsCourse n new.counts) (sym counts) course) (λ same. moved (same ∙ counts)))));
  counted = subst (λ n. CountsOn n new.counts) counts a.counted;
}
  where
    late : ⊥ ⊎ Late mid.view new.view → Late mid.view new.view
    late (inl none) = absurd none
    late (inr is) = is

-- what is not there is none
pub none_is : {X : Type 0} (option : Option X) → is_some option ≡ false → option ≡ None
none_is None is = refl
none_is (Some x) is = absurd (cc)

-- where no line waits, the end of a call does nothing
pub nothing_waits : (server : Server) → server.view.waiting ≡ None → Acts (λ v. v) server server
nothing_waits server none = record {
  done = λ same. sym (ap (λ w. waited w server.view) none);
  failed = λ course moved. absurd (moved refl);
  counted = ((0, omega arith, refl), stayed 2 server.counts.failures server.counts.failures refl);
}

-- of counts that are the same the device did not stray
pub on_course : (old new : Counts) → new ≡ old → KeepsCourse old new
on_course old new same = ap (λ n. n.failures.strays) same

-- where no count changed, nothing failed, and the device did not stray: `mid` is behind what could fail, and then a growth was counted
pub unfailed : {T E P : Type 0} (old mid new : Counts) (failures : ℕ) (r : Result T E) → failures ≡ old.failures.told → mid.refusals ≡ old.refusals → new.failures ≡ mid.failures
    → OnErr r (HasMoved failures mid new) → OnOk r (KeepsCourse old mid → P) → new ≡ old → P
unfailed old mid new failures (Ok x) stood refusals still moved p same = p (ap (λ f. f.strays) (sym still) ∙ on_course old new same)
unfailed old mid new failures (Err x) stood refusals still moved p same =
    absurd (moved (ap (λ n. n.refusals) same ∙ sym refusals) (ap (λ n. n.failures.told) same ∙ sym stood))

-- control octets, and then the count: `mid` is behind the octets
pub took : {T E : Type 0} (octets : List ℕ) (old mid new : Server) (failures : ℕ) (r : Result T E) → failures ≡ old.counts.failures.told → mid.counts.refusals ≡ old.counts.refusals
    → OnOk r (KeepsCourse old.counts mid.counts → HearsTo octets old.view mid.view) → OnErr r (KeepsCourse old.counts mid.counts → AreHeardTo octets old.view mid.view)
    → OnOk r (IsSteady old.counts.failures mid.counts.failures) → new.view ≡ mid.view → new.counts.failures ≡ mid.counts.failures
    → OnOk r (new.counts ≡ mid.counts) → OnErr r (HasMoved failures mid.counts new.counts) → CountsOn old.counts new.counts → Hears octets old new
took octets old mid new failures (Ok x) stood refusals heard lost steady view still same moved counted = λ read is.
    let course : KeepsCourse old.counts new.counts → KeepsCourse old.counts mid.counts = λ c. ap (λ f. f.strays) (sym still) ∙ c in
    record {
      done = λ e. view ∙ (heard (course (on_course old.counts new.counts e)) read is).0;
      may = λ e. (heard (course (on_course old.counts new.counts e)) read is).1;
      failed = λ c differ. absurd (differ (same ∙ same_counts old.counts mid.counts refusals steady (course c)));
      counted = counted;
    }
took octets old mid new failures (Err x) stood refusals heard lost steady view still same moved counted = λ read is.
    let moves : new.counts ≢ old.counts = λ e. moved (ap (λ n. n.refusals) e ∙ sym refusals) (ap (λ n. n.failures.told) e ∙ sym stood) in
    record {
      done = λ e. absurd (moves e);
      may = λ e. absurd (moves e);
      failed = λ c differ. subst (λ w. AreHeard read old.view octets w) (sym view) (lost (ap (λ f. f.strays) (sym still) ∙ c) read is);
      counted = counted;
    }
