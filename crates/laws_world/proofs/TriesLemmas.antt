-- An upload over breaks tries at most as often as it may.
use Rattle.std.proofs.Common.{◌≡◌, ◌⊎◌, ℕ, zero, suc, ◌+◌, ◌≤◌, ◌<◌, List, [], ◌∷◌, Bool, true, false, Some, None, inl, inr, refl, subst, arith}
use Rattle.std.specs.Prelude.{◌==◌, ◌-◌, if◌then◌else◌}
use Rattle.ftp_operation.specs.Answer.{Said}
use Rattle.ftp_operation.specs.declared.op.Op.{Op}
use Rattle.ftp_direct.specs.Direct.{State}
use Rattle.ftp_client_model.specs.Tries.{Run, run_of, is_size, next_of, next_in, run_at}
use Rattle.laws_world.specs.Agreement.{Attempt, GoesOn, attempt_did, tries_in}
use Rattle.laws_world.specs.Claims.{TriesAreFew}

decided : (b : Bool) → (b ≡ true) ⊎ (b ≡ false)
decided true = inl refl
decided false = inr refl

-- behind a run's last try nothing follows
some_left : (run : Run) (op : Op (List ℕ)) (answer : Said) (next : Op (List ℕ)) → next_in run op answer ≡ Some next → 0 < run.left
some_left run op answer next is = elim (decided (run.left == 0)) [
  | inl e ↦ absurd (let none : None ≡ Some next = subst (λ b. (if b then None else next_of run.upload op answer) ≡ Some next) e is in cc)
  | inr e ↦ above run.left e
]
  where
    above : (n : ℕ) → (n == 0) ≡ false → 0 < n
    above zero is = absurd (cc)
    above (suc n) is = omega arith

counted : (size : Bool) (run : Run) (more : ℕ) → 0 < run.left → more ≤ (if size then run else record run { left = run.left - 1 }).left
    → (if size then 0 else 1) + more ≤ run.left
counted true run more some few = omega (arith, few)
counted false run more some few = omega (arith, some, few)

pub few_tries : (moment : ℕ) (run : Run) (op : Op (List ℕ)) (now : Said × State) (attempts : List Attempt) → GoesOn moment run op now attempts
    → tries_in attempts ≤ run.left
few_tries moment run op now [] goes = omega arith
few_tries moment run op now (attempt ∷ attempts) goes =
    counted (is_size attempt.op) run (tries_in attempts) (some_left run op now.0 attempt.op goes.0)
    (few_tries moment (run_at attempt.op run) attempt.op (attempt_did moment now.1 attempt) attempts goes.1)

one_at_most : (size : Bool) → (if size then 0 else 1) ≤ 1
one_at_most true = omega arith
one_at_most false = omega arith

pub tries_are_few : TriesAreFew
tries_are_few state upload moment item is =
    let more = few_tries moment (run_of upload) item.first.op (attempt_did moment state item.first) item.more is.2 in
    omega (arith, more, one_at_most (is_size item.first.op))
