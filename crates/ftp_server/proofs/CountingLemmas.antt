-- How far counts move in a call: by one where a step failed, and by one where the line that waits did.
use Rattle.std.proofs.Common.{◌≡◌, ℕ, zero, suc, ◌+◌, ◌%◌, ◌^◌, ap, subst, ◌∙◌, arith}
use Rattle.ftp_direct.specs.Run.{moved_on}
use Rattle.ftp_tree.specs.Change.{Failures, IsSteady}
use Rattle.ftp_server_model.specs.Counting.{CountsOn, MovesOn, TellsSome}
use Rattle.ftp_server_model.specs.Failing.{Counts}
use Rattle.ftp_server_replies.specs.Fault.{Counted}
use Rattle.ftp_server_replies.specs.declared.fault.Fault.{Fault}
use Rattle.ftp_server_replies.specs.declared.fault.Fault.TheVariants.{Memory, Device}

-- a device that told no failure
pub none_told : (most : ℕ) (before after : Failures) → IsSteady before after → TellsSome most before after
none_told most before after steady = ((0, omega arith, steady.0), steady.1)

-- one that did nothing
pub stayed : (most : ℕ) (before after : Failures) → after ≡ before → TellsSome most before after
stayed most before after same =
    let strays = ap (λ f. f.strays) same in
    none_told most before after (ap (λ f. f.told) same, omega (arith, strays))

-- a failure moves the count of the device on by one at most
pub by_fault : (fault : Fault) (before after : Failures) → Counted fault before after → TellsSome 1 before after
by_fault Memory before after steady = none_told 1 before after steady
by_fault Device before after one = ((1, omega arith, one.0), one.1)

-- the same, where nothing had moved it before
pub later_fault : (fault : Fault) (first before after : Failures) → before ≡ first → Counted fault before after → TellsSome 1 first after
later_fault fault first before after same counted = subst (λ f. TellsSome 1 f after) same (by_fault fault before after counted)

-- no failure told, and then some at most
pub steady_then : (most : ℕ) (before between after : Failures) → IsSteady before between → TellsSome most between after → TellsSome most before after
steady_then most before between after first next =
    ((next.0.0, next.0.1, next.0.2 ∙ ap (moved_on next.0.0) first.0), omega (arith, first.1, next.1))

-- none told, where a call did nothing before or after that
pub steady_behind : (before between after : Failures) → between ≡ before → IsSteady between after → IsSteady before after
steady_behind before between after same steady = subst (λ f. IsSteady f after) same steady

-- counts that move on twice
twice : (more first count : ℕ) → moved_on more (moved_on first count) ≡ moved_on (first + more) count
twice zero first count =
    let sum : first ≡ first + zero = omega arith in
    ap (λ n. moved_on n count) sum
twice (suc more) first count =
    let sum : suc (first + more) ≡ first + suc more = omega arith in
    ap (λ n. (n + 1) % 2 ^ 64) (twice more first count) ∙ ap (λ n. moved_on n count) sum

-- one at most, and then one at most
pub then_one : (before between after : Failures) → TellsSome 1 before between → TellsSome 1 between after → TellsSome 2 before after
then_one before between after first next = (
  (first.0.0 + next.0.0, omega (arith, first.0.1, next.0.1), next.0.2 ∙ ap (moved_on next.0.0) first.0.2 ∙ twice next.0.0 first.0.0 before.told),
  omega (arith, first.1, next.1),
)

-- octets were taken, which moves the device's count by one at most, and then the other by one at most
pub by_octets : (old mid new : Counts) → mid.refusals ≡ old.refusals → TellsSome 1 old.failures mid.failures → MovesOn 1 mid.refusals new.refusals
    → new.failures ≡ mid.failures → CountsOn old new
by_octets old mid new same few counted still =
    let strays = ap (λ f. f.strays) still in (
      (counted.0, counted.1, counted.2 ∙ ap (moved_on counted.0) same),
      ((few.0.0, omega (arith, few.0.1), ap (λ f. f.told) still ∙ few.0.2), omega (arith, few.1, strays)),
    )

-- a step, and then the line that waits
pub by_step : (old mid new : Counts) → mid.refusals ≡ old.refusals → TellsSome 1 old.failures mid.failures → MovesOn 1 mid.refusals new.refusals
    → TellsSome 1 mid.failures new.failures → CountsOn old new
by_step old mid new same few counted more =
    ((counted.0, counted.1, counted.2 ∙ ap (moved_on counted.0) same), then_one old.failures mid.failures new.failures few more)

-- where no failure was told, no growth counted as refused, and the device did not stray, the counts are the same
pub same_counts : (old new : Counts) → new.refusals ≡ old.refusals → IsSteady old.failures new.failures → new.failures.strays ≡ old.failures.strays → new ≡ old
same_counts old new refusals steady strays = λ i. record { refusals = refusals i; failures = record { told = steady.0 i; strays = strays i } }
