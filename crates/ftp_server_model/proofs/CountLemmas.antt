-- Two counts are the same or not; and those of a server whose tree's device never strays are as it tells them.
use Rattle.std.proofs.Common.{◌≡◌, ◌≢◌, ◌⊎◌, inl, inr, ℕ, ◌∙◌, sym, ap, eqb-true, eq-eqb, true≢false}
use Rattle.std.specs.Prelude.{◌==◌}
use Rattle.ftp_nvt.proofs.CutLemmas.{decided}
use Rattle.ftp_tree.specs.Change.{Failures}
use Rattle.ftp_server_model.specs.Failing.{Counts, KeepsCourse}
use Rattle.ftp_server_model.specs.Far.{AreTold, counts_told}
use Rattle.ftp_server_model.specs.declared.counts.Counts.{Counts as Told}

-- two numbers are the same or not
same_number : (m n : ℕ) → (m ≡ n) ⊎ (m ≢ n)
same_number m n =
    elim (decided (m == n)) [
      | inl e ↦ inl (eqb-true m n e)
      | inr e ↦ inr (λ same. true≢false (sym (eq-eqb m n same) ∙ e))
    ]

-- what a device did is the same or not
same_failures : (a b : Failures) → (a ≡ b) ⊎ (a ≢ b)
same_failures a b = both (same_number a.told b.told) (same_number a.strays b.strays)
  where
    both : (a.told ≡ b.told) ⊎ (a.told ≢ b.told) → (a.strays ≡ b.strays) ⊎ (a.strays ≢ b.strays) → (a ≡ b) ⊎ (a ≢ b)
    both (inl p) (inl q) = inl (λ i. record { told = p i; strays = q i })
    both (inl p) (inr q) = inr (λ same. q (ap (λ (f : Failures). f.strays) same))
    both (inr p) q = inr (λ same. p (ap (λ (f : Failures). f.told) same))

-- two counts are the same or not
pub same_counts : (a b : Counts) → (a ≡ b) ⊎ (a ≢ b)
same_counts a b = both (same_number a.refusals b.refusals) (same_failures a.failures b.failures)
  where
    both : (a.refusals ≡ b.refusals) ⊎ (a.refusals ≢ b.refusals) → (a.failures ≡ b.failures) ⊎ (a.failures ≢ b.failures) → (a ≡ b) ⊎ (a ≢ b)
    both (inl p) (inl q) = inl (λ i. record { refusals = p i; failures = q i })
    both (inl p) (inr q) = inr (λ same. q (ap (λ (c : Counts). c.failures) same))
    both (inr p) q = inr (λ same. p (ap (λ (c : Counts). c.refusals) same))

-- of a device that never strays it is the same in every call
pub sure_course : (old new : Counts) → old.failures.strays ≡ 0 → new.failures.strays ≡ 0 → KeepsCourse old new
sure_course old new before after = after ∙ sym before

-- counts where no stray is are what is told of them
pub told_counts : (told : Told) (counts : Counts) → AreTold told counts → counts.failures.strays ≡ 0 → counts_told told ≡ counts
told_counts told counts are never = λ i. record { refusals = are.0 i; failures = record { told = are.1 i; strays = sym never i } }

-- where both counts are told alike they are the same
pub told_same : (told now : Told) (old new : Counts) → AreTold told old → AreTold now new → old.failures.strays ≡ 0 → new.failures.strays ≡ 0
    → now.refusals ≡ told.refusals → now.failures ≡ told.failures → new ≡ old
told_same told now old new was are before after refusals failures =
    sym (told_counts now new are after) ∙ (λ i. record { refusals = refusals i; failures = record { told = failures i; strays = 0 } }) ∙ told_counts told old was before
