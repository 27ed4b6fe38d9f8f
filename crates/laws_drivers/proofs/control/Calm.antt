-- Where neither count moved in two calls together, and the device did not stray, neither moved in the first, and it did not stray there.
use Rattle.std.proofs.Common.{◌≡◌, ℕ, zero, suc, ◌+◌, ◌%◌, ◌^◌, ◌<◌, ◌≤◌, refl, sym, ap, subst, ◌∙◌, arith}
use Rattle.ftp_direct.specs.Run.{moved_on}
use Rattle.ftp_server_model.specs.Counting.{CountsOn, MovesOn}
use Rattle.ftp_server_model.specs.Failing.{Counts}
use Rattle.ftp_tree.proofs.CountLemmas.{stray-first}

-- one that moved twice moved by both together
pub twice : (more first count : ℕ) → moved_on more (moved_on first count) ≡ moved_on (first + more) count
twice zero first count =
    let sum : first ≡ first + 0 = omega arith in
    ap (λ n. moved_on n count) sum
twice (suc more) first count =
    let sum : suc (first + more) ≡ first + suc more = omega arith in
    ap (λ n. (n + 1) % 2 ^ 64) (twice more first count) ∙ ap (λ n. moved_on n count) sum

-- one that fits has moved by a sum, up to its wrap
moved_sum : (more count : ℕ) → count < 2 ^ 64 → moved_on more count ≡ (count + more) % 2 ^ 64
moved_sum zero count fits = omega (arith, fits)
moved_sum (suc more) count fits = ap (λ n. (n + 1) % 2 ^ 64) (moved_sum more count fits) ∙ omega arith

-- one that moved fits
moved_less : (more count : ℕ) → moved_on (suc more) count < 2 ^ 64
moved_less more count = by_rest (moved_on more count)
  where
    by_rest : (n : ℕ) → (n + 1) % 2 ^ 64 < 2 ^ 64
    by_rest n = omega arith

-- one that is what it was has moved by none
pub stays_put : (more count : ℕ) → more < 2 ^ 64 → moved_on more count ≡ count → more ≡ 0
stays_put zero count few same = refl
stays_put (suc more) count few same =
    let fits : count < 2 ^ 64 = subst (λ n. n < 2 ^ 64) same (moved_less more count) in
    let is = sym (moved_sum (suc more) count fits) ∙ same in omega (arith, is, fits, few)

-- one that moved twice and is what it was was so in between
one_stays : (most old mid new : ℕ) → most ≤ 2 → MovesOn most old mid → MovesOn most mid new → new ≡ old → mid ≡ old
one_stays most old mid new few first second same =
    let all : moved_on (first.0 + second.0) old ≡ old = sym (twice second.0 first.0 old) ∙ sym (ap (moved_on second.0) first.2) ∙ sym second.2 ∙ same in
    let none : first.0 + second.0 ≡ 0 = stays_put (first.0 + second.0) old (omega (arith, few, first.1, second.1)) all in
    let is : first.0 ≡ 0 = omega (arith, none) in
    first.2 ∙ ap (λ n. moved_on n old) is

-- so it is of both
pub first_is_calm : (old mid new : Counts) → CountsOn old mid → CountsOn mid new → new ≡ old → mid ≡ old
first_is_calm old mid new first second same =
    let refusals : mid.refusals ≡ old.refusals =
    one_stays 1 old.refusals mid.refusals new.refusals (omega arith) first.0 second.0 (ap (λ (c : Counts). c.refusals) same) in
    let told : mid.failures.told ≡ old.failures.told =
    one_stays 2 old.failures.told mid.failures.told new.failures.told (omega arith) first.1.0 second.1.0 (ap (λ (c : Counts). c.failures.told) same) in
    let strays : mid.failures.strays ≡ old.failures.strays =
    stray-first old.failures mid.failures new.failures first.1.1 second.1.1 (ap (λ (c : Counts). c.failures.strays) same) in
    λ i. record { refusals = refusals i; failures = record { told = told i; strays = strays i } }
