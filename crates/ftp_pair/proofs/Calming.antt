-- When a world is calm, by what its ends have counted.
use Rattle.std.proofs.Common.{◌≡◌, ℕ, ◌+◌, ◌*◌, ◌-◌, ◌<◌, ◌≤◌, ◌^◌, ◌&&◌, Bool, true, false, List, [], ◌∷◌, ◌++◌, map, take, length, get_or, refl, sym, ap, subst, ◌∙◌, arith, Ok, Err}
use Rattle.std.specs.declared.result.Result.{Result}
use Rattle.std.specs.Prelude.{OnErr, nat_eq, if◌then◌else◌}
use Rattle.std.proofs.lemmas.Bool.Decides.{nat_tests}
use Rattle.std.proofs.lemmas.List.{map-append}
use Rattle.laws_world.specs.Events.{Event}
use Rattle.ftp_pair_events.specs.events.Calm.{KeepsTally, Tally, most_in}
use Rattle.ftp_pair_events.proofs.events.Keeping.{fewer, none, none_in_all, stayed, then as follows}
use Rattle.ftp_pair.proofs.Running.{front_more}
use Rattle.ftp_pair.specs.Session.{AreCounts, Counted, KeepsCalm, KeepsCalmBy, Seen, is_same_tally, most_failures_of}

-- where too few failures were counted for a count to come round, it is told by the counts at both ends
pub keeps_calm : (most : ℕ) (old new : Seen) → most < 2 ^ 64 → Counted most old new → KeepsCalm old new
keeps_calm most old new few kept fits =
    kept.calm_is ∙ ap (λ b. old.calm && b) (sym (none_in_all kept.near kept.refusals kept.failures _ _ _
    (stayed kept.near old.tally.near new.tally.near fits.0 (omega (arith, few, kept.few)) kept.near_is)
    (stayed kept.refusals old.tally.far.refusals new.tally.far.refusals fits.1 (omega (arith, few, kept.few)) kept.refusals_is)
    (stayed kept.failures old.tally.far.failures.told new.tally.far.failures.told fits.2 (omega (arith, few, kept.few)) kept.failures_is)))

-- where nothing changed
pub same_on_err : {T E : Type 0} (result : Result T E) (old new : Seen) → OnErr result ((new.world ≡ old.world) × (new.calm ≡ old.calm)) → OnErr result (new.tally ≡ old.tally)
    → OnErr result (new ≡ old)
same_on_err (Ok x) old new same unmoved = tt
same_on_err (Err e) old new same unmoved = λ i. record { world = same.0 i; calm = same.1 i; tally = unmoved i }

-- ---- events one after another

-- one more
most_last : (given : List Event) (event : Event) → most_failures_of given + most_in event ≡ most_failures_of (given ++ event ∷ [])
most_last [] event = omega arith
most_last (first ∷ given) event = let rest = most_last given event in omega (arith, rest)

-- the first of them count no more than all
most_front : (front rest : List Event) → most_failures_of front ≤ most_failures_of (front ++ rest)
most_front [] rest = omega arith
most_front (event ∷ front) rest = let less = most_front front rest in omega (arith, less)

-- after one event more
counted_more : {S : Type 0} (f : S → Event) (given : List S) (event : S) (old mid new : Seen) → Counted (most_failures_of (map f given)) old mid → Counted (most_in (f event)) mid new
    → Counted (most_failures_of (map f (given ++ event ∷ []))) old new
counted_more f given event old mid new so one =
    follows so one (subst (λ l. most_failures_of (map f given) + most_in (f event) ≤ most_failures_of l) (sym (map-append f given (event ∷ []))) (at_most _ _ (most_last (map f given) (f event))))
  where
    at_most : (a b : ℕ) → a ≡ b → a ≤ b
    at_most a b same = omega (arith, same)

-- after the first events of a list, and the next, which happened as a copy of its own
pub counted_on : {S : Type 0} (f : S → Event) (events : List S) (i : ℕ) (d next own : S) (old mid new : Seen) → i < length events → next ≡ get_or events i d → own ≡ next
    → Counted (most_failures_of (map f (take i events))) old mid → Counted (most_in (f own)) mid new → Counted (most_failures_of (map f (take (i + 1) events))) old new
counted_on f events i d next own old mid new inside is same so one =
    subst (λ l. Counted (most_failures_of (map f l)) old new) (front_more events i d next own inside is same) (counted_more f (take i events) own old mid new so one)

-- events that were a front of all
pub calm_by_front : {S : Type 0} (f : S → Event) (all front rest : List S) (old new : Seen) → all ≡ front ++ rest → Counted (most_failures_of (map f front)) old new → KeepsCalmBy (map f all) old new
calm_by_front f all front rest old new is so few =
    let less : most_failures_of (map f front) ≤ most_failures_of (map f all) =
    subst (λ l. most_failures_of (map f front) ≤ most_failures_of (map f l)) (sym is)
    (subst (λ l. most_failures_of (map f front) ≤ most_failures_of l) (sym (map-append f front rest)) (most_front (map f front) (map f rest))) in
    keeps_calm (most_failures_of (map f front)) old new (omega (arith, few, less)) so

-- one event alone
pub calm_by_one : (event : Event) (old new : Seen) → Counted (most_in event) old new → KeepsCalmBy (event ∷ []) old new
calm_by_one event old new so few = keeps_calm (most_in event) old new (omega (arith, few)) so

-- ---- turns one after another

-- where a world that was calm is, nothing was counted
calm_none : (most : ℕ) (was calm : Bool) (old new : Tally) → KeepsTally most was calm old new → calm ≡ true → KeepsTally 0 was calm old new
calm_none most true calm old new kept is = record {
  near = kept.near;
  refusals = kept.refusals;
  failures = kept.failures;
  few = let all : nat_eq (kept.near + kept.refusals + kept.failures) 0 ≡ true = sym kept.calm_is ∙ is in grind (arith, nat_tests, all);
  near_is = kept.near_is;
  refusals_is = kept.refusals_is;
  failures_is = kept.failures_is;
  calm_is = kept.calm_is;
}
calm_none most false calm old new kept is = absurd (let wrong : false ≡ true = sym kept.calm_is ∙ is in cc)

-- so many turns are left of 2^40, and those that were made since something failed counted few
pub turned : (left after : ℕ) (told : Bool) (old mid new : Seen) → 0 < left → left ≤ 1099511627776 → Counted (12312 * (1099511627776 - left)) old mid → Counted 12312 mid new
    → told ≡ new.calm → after ≡ (if told then left else left - 1) → Counted (12312 * (1099511627776 - after)) old new
turned left after true old mid new some all so one is after_is = fewer (calm_none _ old.calm new.calm old.tally new.tally (follows so one (sum _)) (sym is)) (omega arith)
  where
    sum : (a : ℕ) → a + 12312 ≤ a + 12312
    sum a = omega arith
turned left after false old mid new some all so one is after_is = follows so one (omega (arith, some, all, after_is))

-- no turn is left that wasn't there
pub left_few : (left after : ℕ) (told : Bool) → left ≤ 1099511627776 → after ≡ (if told then left else left - 1) → after ≤ 1099511627776
left_few left after true few is = omega (arith, few, is)
left_few left after false few is = omega (arith, few, is)

-- at the end
pub settled_calm : (left : ℕ) (old new : Seen) → Counted (12312 * (1099511627776 - left)) old new → KeepsCalm old new
settled_calm left old new so = keeps_calm (12312 * (1099511627776 - left)) old new (omega arith) so
