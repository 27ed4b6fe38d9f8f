-- Calm over one call, and over calls one after another.
use Rattle.std.proofs.Common.{◌≡◌, ◌≢◌, ℕ, zero, suc, ◌+◌, ◌*◌, ◌%◌, ◌^◌, ◌<◌, ◌≤◌, ◌⊎◌, inl, inr, ◌&&◌, Bool, true, false, refl, sym, ap, subst, ◌∙◌, arith}
use Rattle.std.specs.Prelude.{nat_eq}
use Rattle.std.proofs.lemmas.Bool.Decides.{nat_tests}
use Rattle.ftp_direct.specs.Run.{moved_on}
use Rattle.ftp_client_model.specs.Counting.{MovesByOneAtMost as NearOn}
use Rattle.ftp_server_model.specs.Counting.{CountsOn as FarOn}
use Rattle.ftp_server_model.specs.Failing.{Counts}
use Rattle.ftp_pair_events.specs.events.Calm.{KeepsTally, Tally}

-- calm stays where nothing failed
still : (b : Bool) → b ≡ (b && true)
still true = refl
still false = refl

-- nothing was called
pub none : (most : ℕ) (was : Bool) (t : Tally) → KeepsTally most was was t t
none most was t = record {
  near = 0;
  refusals = 0;
  failures = 0;
  few = omega arith;
  near_is = refl;
  refusals_is = refl;
  failures_is = refl;
  calm_is = still was;
}

-- counts that move on twice
moved_twice : (more first count : ℕ) → moved_on more (moved_on first count) ≡ moved_on (first + more) count
moved_twice zero first count =
    let sum : first ≡ first + 0 = omega arith in
    ap (λ n. moved_on n count) sum
moved_twice (suc more) first count =
    let sum : suc (first + more) ≡ first + suc more = omega arith in
    ap (λ n. (n + 1) % 2 ^ 64) (moved_twice more first count) ∙ ap (λ n. moved_on n count) sum

-- a sum is none where both are
none_of_both : (x y : ℕ) → (nat_eq x 0 && nat_eq y 0) ≡ nat_eq (x + y) 0
none_of_both zero y =
    let sum : y ≡ 0 + y = omega arith in
    ap (λ n. nat_eq n 0) sum
none_of_both (suc x) y =
    let some : nat_eq (suc x) 0 ≡ false = grind (arith, nat_tests) in
    let more : nat_eq (suc x + y) 0 ≡ false = grind (arith, nat_tests) in
    ap (λ b. b && nat_eq y 0) some ∙ sym more

and_assoc : (a b c : Bool) → ((a && b) && c) ≡ (a && (b && c))
and_assoc true b c = refl
and_assoc false b c = refl

-- none in either part, where there is none in both
none_in : (was mid calm : Bool) (first next all : ℕ) → mid ≡ (was && nat_eq first 0) → calm ≡ (mid && nat_eq next 0) → first + next ≡ all → calm ≡ (was && nat_eq all 0)
none_in was mid calm first next all mid_is is sum =
    is ∙ ap (λ m. m && nat_eq next 0) mid_is ∙ and_assoc was (nat_eq first 0) (nat_eq next 0)
    ∙ ap (λ z. was && z) (none_of_both first next ∙ ap (λ n. nat_eq n 0) sum)

-- calls after calls
pub then : {a b most : ℕ} {was mid calm : Bool} {old between new : Tally} → KeepsTally a was mid old between → KeepsTally b mid calm between new → a + b ≤ most → KeepsTally most was calm old new
then first next few = record {
  near = first.near + next.near;
  refusals = first.refusals + next.refusals;
  failures = first.failures + next.failures;
  few = omega (arith, few, first.few, next.few);
  near_is = next.near_is ∙ ap (moved_on next.near) first.near_is ∙ moved_twice next.near first.near _;
  refusals_is = next.refusals_is ∙ ap (moved_on next.refusals) first.refusals_is ∙ moved_twice next.refusals first.refusals _;
  failures_is = next.failures_is ∙ ap (moved_on next.failures) first.failures_is ∙ moved_twice next.failures first.failures _;
  calm_is = none_in _ _ _ (first.near + first.refusals + first.failures) (next.near + next.refusals + next.failures) _ first.calm_is next.calm_is (omega arith);
}

-- the same, where what came last is told first
pub after : {a b most : ℕ} {was mid calm : Bool} {old between new : Tally} → KeepsTally b mid calm between new → KeepsTally a was mid old between → a + b ≤ most → KeepsTally most was calm old new
after next first few = then first next few

-- fewer at most
pub fewer : {a most : ℕ} {was calm : Bool} {old new : Tally} → KeepsTally a was calm old new → a ≤ most → KeepsTally most was calm old new
fewer kept few = record {
  near = kept.near;
  refusals = kept.refusals;
  failures = kept.failures;
  few = omega (arith, few, kept.few);
  near_is = kept.near_is;
  refusals_is = kept.refusals_is;
  failures_is = kept.failures_is;
  calm_is = kept.calm_is;
}

-- a count of 64 bits that moves on by so many
moved_sum : (more count : ℕ) → count < 2 ^ 64 → moved_on more count ≡ (count + more) % 2 ^ 64
moved_sum zero count fits = omega (arith, fits)
moved_sum (suc more) count fits = ap (λ n. (n + 1) % 2 ^ 64) (moved_sum more count fits) ∙ omega arith

-- it is what it was just where it moved by none
stays_put : (more count : ℕ) → count < 2 ^ 64 → more < 2 ^ 64 → moved_on more count ≡ count → more ≡ 0
stays_put more count fits few same = let is = sym (moved_sum more count fits) ∙ same in omega (arith, is, fits, few)

-- whether a count stayed is whether it moved by none
pub stayed : (more before after : ℕ) → before < 2 ^ 64 → more < 2 ^ 64 → after ≡ moved_on more before → nat_eq after before ≡ nat_eq more 0
stayed zero before after fits few is = grind (arith, nat_tests, is)
stayed (suc more) before after fits few is =
    let moved : after ≢ before = λ same. absurd (omega (arith, stays_put (suc more) before fits few (sym is ∙ same))) in
    let differs : nat_eq after before ≡ false = grind (arith, nat_tests, moved) in
    let some : nat_eq (suc more) 0 ≡ false = grind (arith, nat_tests) in
    differs ∙ sym some

-- a call of the client's, between two looks at its count
pub near_kept : {was calm : Bool} {old new : Tally} (before after : ℕ) → before < 2 ^ 64 → before ≡ old.near → after ≡ new.near → NearOn old.near new.near → new.far ≡ old.far
    → calm ≡ (was && nat_eq after before) → KeepsTally 3 was calm old new
near_kept {was} {calm} {old} {new} before after fits before_is after_is (inl same) far_is is = record {
  near = 0;
  refusals = 0;
  failures = 0;
  few = omega arith;
  near_is = same;
  refusals_is = ap (λ (c : Counts). c.refusals) far_is;
  failures_is = ap (λ (c : Counts). c.failures.told) far_is;
  calm_is = is ∙ ap (λ b. was && b) (stayed 0 before after fits (omega arith) (after_is ∙ same ∙ sym before_is));
}
near_kept {was} {calm} {old} {new} before after fits before_is after_is (inr next) far_is is = record {
  near = 1;
  refusals = 0;
  failures = 0;
  few = omega arith;
  near_is = next;
  refusals_is = ap (λ (c : Counts). c.refusals) far_is;
  failures_is = ap (λ (c : Counts). c.failures.told) far_is;
  calm_is = is ∙ ap (λ b. was && b) (stayed 1 before after fits (omega arith) (after_is ∙ next ∙ ap (λ n. (n + 1) % 2 ^ 64) (sym before_is)));
}

-- a call that takes no memory
pub held : {was : Bool} {old new : Tally} (most : ℕ) → new.near ≡ old.near → new.far ≡ old.far → KeepsTally most was was old new
held {was} {old} {new} most near_is far_is = record {
  near = 0;
  refusals = 0;
  failures = 0;
  few = omega arith;
  near_is = near_is;
  refusals_is = ap (λ (c : Counts). c.refusals) far_is;
  failures_is = ap (λ (c : Counts). c.failures.told) far_is;
  calm_is = still was;
}

-- two counts move by none just where both stay
both_none : (x y : Bool) (a b : ℕ) → x ≡ nat_eq a 0 → y ≡ nat_eq b 0 → (x && y) ≡ nat_eq (0 + a + b) 0
both_none x y a b x_is y_is = ap (λ x. x && y) x_is ∙ ap (λ y. nat_eq a 0 && y) y_is ∙ none_of_both a b ∙ ap (λ n. nat_eq n 0) (sum a b)
  where
    sum : (a b : ℕ) → a + b ≡ 0 + a + b
    sum a b = omega arith

-- a call of the server's, between two looks at its counts
pub far_kept : {was calm : Bool} {old new : Tally} (before after : Counts) → (before.refusals < 2 ^ 64) → (before.failures.told < 2 ^ 64) → before ≡ old.far → after ≡ new.far
    → FarOn old.far new.far → new.near ≡ old.near → calm ≡ (was && (nat_eq after.refusals before.refusals && nat_eq after.failures.told before.failures.told)) → KeepsTally 3 was calm old new
far_kept {was} {calm} {old} {new} before after fits fits_too before_is after_is moved near_is is = record {
  near = 0;
  refusals = moved.0.0;
  failures = moved.1.0.0;
  few = omega (arith, moved.0.1, moved.1.0.1);
  near_is = near_is;
  refusals_is = moved.0.2;
  failures_is = moved.1.0.2;
  calm_is = is ∙ ap (λ b. was && b) (both_none _ _ moved.0.0 moved.1.0.0
      (stayed moved.0.0 before.refusals after.refusals fits (omega (arith, moved.0.1))
      (ap (λ (c : Counts). c.refusals) after_is ∙ moved.0.2 ∙ ap (λ (c : Counts). moved_on moved.0.0 c.refusals) (sym before_is)))
      (stayed moved.1.0.0 before.failures.told after.failures.told fits_too (omega (arith, moved.1.0.1))
      (ap (λ (c : Counts). c.failures.told) after_is ∙ moved.1.0.2 ∙ ap (λ (c : Counts). moved_on moved.1.0.0 c.failures.told) (sym before_is))));
}

-- a bound is one
pub at_most : (most : ℕ) → most ≤ most
at_most most = omega arith

-- three counts move by none just where each stays
pub none_in_all : (a b c : ℕ) (x y z : Bool) → x ≡ nat_eq a 0 → y ≡ nat_eq b 0 → z ≡ nat_eq c 0 → (x && (y && z)) ≡ nat_eq (a + b + c) 0
none_in_all a b c x y z x_is y_is z_is =
    let sum : a + (b + c) ≡ a + b + c = omega arith in
    ap (λ x. x && (y && z)) x_is ∙ ap (λ y. nat_eq a 0 && (y && z)) y_is ∙ ap (λ z. nat_eq a 0 && (nat_eq b 0 && z)) z_is
    ∙ ap (λ r. nat_eq a 0 && r) (none_of_both b c) ∙ none_of_both a (b + c) ∙ ap (λ n. nat_eq n 0) sum
