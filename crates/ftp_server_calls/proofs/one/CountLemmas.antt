-- How far the counts of a server move in calls by a list: too little to come round.
use Rattle.std.proofs.Common.{◌≡◌, ◌≢◌, ℕ, zero, suc, ◌+◌, ◌*◌, ◌%◌, ◌^◌, ◌<◌, ◌≤◌, List, [], ◌∷◌, length, refl, sym, ap, subst, ◌∙◌, arith}
use Rattle.ftp_direct.specs.Run.{moved_on}
use Rattle.ftp_server_model.specs.Counting.{CountsOn}
use Rattle.ftp_tree.proofs.CountLemmas.{stray-first}
use Rattle.ftp_server_model.proofs.LinesDecided.{reading_exists}
use Rattle.ftp_server_model.specs.Failing.{Counts, KeepsCourse}
use Rattle.ftp_server_model.specs.Far.{Server}
use Rattle.ftp_server_model.specs.Machine.{IsReading, Reading}
use Rattle.ftp_server_model.specs.Play.{Cue, Gift, Clock, Hear, ControlOut, ControlEnd, Listening, ListenRefused, DataOpened, DataRefused, DataHear, DataOut, DataEnd, DataFault, DataClosed, AsksWants}
use Rattle.ftp_server_calls.specs.one.Making.{AreMade, ArePlayed, Makes}

-- ---- one count

twice : (more first count : ℕ) → moved_on more (moved_on first count) ≡ moved_on (first + more) count
twice zero first count =
    let sum : first ≡ first + 0 = omega arith in
    ap (λ n. moved_on n count) sum
twice (suc more) first count =
    let sum : suc (first + more) ≡ first + suc more = omega arith in
    ap (λ n. (n + 1) % 2 ^ 64) (twice more first count) ∙ ap (λ n. moved_on n count) sum

moved_sum : (more count : ℕ) → count < 2 ^ 64 → moved_on more count ≡ (count + more) % 2 ^ 64
moved_sum zero count fits = omega (arith, fits)
moved_sum (suc more) count fits = ap (λ n. (n + 1) % 2 ^ 64) (moved_sum more count fits) ∙ omega arith

moved_less : (more count : ℕ) → moved_on (suc more) count < 2 ^ 64
moved_less more count = by_rest (moved_on more count)
  where
    by_rest : (n : ℕ) → (n + 1) % 2 ^ 64 < 2 ^ 64
    by_rest n = omega arith

-- one that is what it was has moved by none
stays_put : (more count : ℕ) → more < 2 ^ 64 → moved_on more count ≡ count → more ≡ 0
stays_put zero count few same = refl
stays_put (suc more) count few same =
    let fits : count < 2 ^ 64 = subst (λ n. n < 2 ^ 64) same (moved_less more count) in
    let is = sym (moved_sum (suc more) count fits) ∙ same in omega (arith, is, fits, few)

-- ---- both

-- they have moved on by so many, at most so many calls
record Moves (calls : ℕ) (old new : Counts) : Type 0 where
  pub refusals : ℕ
  pub failures : ℕ
  pub few : refusals ≤ calls
  pub few_too : failures ≤ 2 * calls
  pub refused : new.refusals ≡ moved_on refusals old.refusals
  pub failed : new.failures.told ≡ moved_on failures old.failures.told
  pub strays : old.failures.strays ≤ new.failures.strays

unmoved : (old new : Counts) → new ≡ old → Moves 0 old new
unmoved old new same = record {
  refusals = 0;
  failures = 0;
  few = omega arith;
  few_too = omega arith;
  refused = ap (λ (c : Counts). c.refusals) same;
  failed = ap (λ (c : Counts). c.failures.told) same;
  strays = let strays = ap (λ (c : Counts). c.failures.strays) same in omega (arith, strays);
}

-- a call, and then the rest
on_then : (calls : ℕ) (old mid new : Counts) → CountsOn old mid → Moves calls mid new → Moves (suc calls) old new
on_then calls old mid new one rest = record {
  refusals = one.0.0 + rest.refusals;
  failures = one.1.0.0 + rest.failures;
  few = omega (arith, one.0.1, rest.few);
  few_too = omega (arith, one.1.0.1, rest.few_too);
  refused = rest.refused ∙ ap (moved_on rest.refusals) one.0.2 ∙ twice rest.refusals one.0.0 old.refusals;
  failed = rest.failed ∙ ap (moved_on rest.failures) one.1.0.2 ∙ twice rest.failures one.1.0.0 old.failures.told;
  strays = omega (arith, one.1.1, rest.strays);
}

-- where one of them moved first, they are not what they were
moved_some : (calls : ℕ) (old mid new : Counts) → 2 * suc calls < 2 ^ 64 → CountsOn old mid → mid ≢ old → Moves calls mid new → new ≢ old
unfolding on_then
moved_some calls old mid new few one moved rest same =
    let all = on_then calls old mid new one rest in
    let refusals : one.0.0 + rest.refusals ≡ 0 = stays_put all.refusals old.refusals (omega (arith, few, all.few)) (sym all.refused ∙ ap (λ (c : Counts). c.refusals) same) in
    let failures : one.1.0.0 + rest.failures ≡ 0 = stays_put all.failures old.failures.told (omega (arith, few, all.few_too)) (sym all.failed ∙ ap (λ (c : Counts). c.failures.told) same) in
    let none : one.0.0 ≡ 0 = omega (arith, refusals) in
    let none_too : one.1.0.0 ≡ 0 = omega (arith, failures) in
    let r : mid.refusals ≡ old.refusals = one.0.2 ∙ ap (λ n. moved_on n old.refusals) none in
    let f : mid.failures.told ≡ old.failures.told = one.1.0.2 ∙ ap (λ n. moved_on n old.failures.told) none_too in
    let s : mid.failures.strays ≡ old.failures.strays =
    stray-first old.failures mid.failures new.failures one.1.1 rest.strays (ap (λ (c : Counts). c.failures.strays) same) in
    moved (λ i. record { refusals = r i; failures = record { told = f i; strays = s i } })

-- ---- calls

still : (old new : Server) → new.counts ≡ old.counts → CountsOn old.counts new.counts
still old new same =
    let strays = ap (λ (c : Counts). c.failures.strays) same in
    ((0, omega arith, ap (λ (c : Counts). c.refusals) same), ((0, omega arith, ap (λ (c : Counts). c.failures.told) same), omega (arith, strays)))

call_counts : (read : Reading) → IsReading read → (cue : Cue) (gift : Gift) (old new : Server) → Makes cue gift old new → CountsOn old.counts new.counts
call_counts read is (Clock moment) gift old new makes = makes.1.counted
call_counts read is (Hear octets) gift old new makes = (makes.2.took read is).counted
call_counts read is (ControlOut room) gift old new makes = makes.1.counted
call_counts read is ControlEnd gift old new makes = still old new (ap (λ (s : Server). s.counts) makes.1)
call_counts read is (Listening port) gift old new makes = makes.1.counted
call_counts read is ListenRefused gift old new makes = makes.1.counted
call_counts read is (DataOpened host) gift old new makes = makes.1.counted
call_counts read is DataRefused gift old new makes = makes.1.counted
call_counts read is (DataHear octets) gift old new makes = makes.2.took.counted
call_counts read is (DataOut room) gift old new makes = makes.2.now.counted
call_counts read is DataEnd gift old new makes = makes.1.counted
call_counts read is DataFault gift old new makes = makes.1.counted
call_counts read is DataClosed gift old new makes = makes.1.counted
call_counts read is AsksWants gift old new makes = still old new (ap (λ (s : Server). s.counts) makes.1)

all_count : (read : Reading) → IsReading read → (cues : List Cue) (gifts : List Gift) (old new : Server) → AreMade cues gifts old new → Moves (length cues) old.counts new.counts
all_count read is [] [] old new made = unmoved old.counts new.counts (ap (λ (s : Server). s.counts) made)
all_count read is [] (gift ∷ gifts) old new made = absurd made
all_count read is (cue ∷ cues) [] old new made = absurd made
all_count read is (cue ∷ cues) (gift ∷ gifts) old new made =
    on_then (length cues) old.counts made.0.counts new.counts (call_counts read is cue gift old made.0 made.1) (all_count read is cues gifts made.0 new made.2)

-- where no device strayed up to the end of calls, it did not in the first of them
pub first_course : (cue : Cue) (gift : Gift) (cues : List Cue) (gifts : List Gift) (old mid new : Server) → Makes cue gift old mid → AreMade cues gifts mid new
    → new.counts.failures.strays ≡ 0 → KeepsCourse old.counts mid.counts
first_course cue gift cues gifts old mid new one made none =
    let first = (call_counts reading_exists.0 reading_exists.1 cue gift old mid one).1.1 in
    let rest = (all_count reading_exists.0 reading_exists.1 cues gifts mid new made).strays in
    omega (arith, first, rest, none)

-- counts that are what they were after so few calls did not move in any
pub calm_all : (read : Reading) → IsReading read → (calm : ℕ) (cues : List Cue) (gifts : List Gift) (old new : Server) → 2 * length cues < 2 ^ 64
    → ArePlayed calm cues gifts old new → new.counts ≡ old.counts → calm ≡ length cues
calm_all read is zero [] gifts old new few made same = refl
calm_all read is zero (cue ∷ cues) [] old new few made same = absurd made
calm_all read is zero (cue ∷ cues) (gift ∷ gifts) old new few made same =
    absurd (moved_some (length cues) old.counts made.0.counts new.counts few (call_counts read is cue gift old made.0 made.1) made.2
    (all_count read is cues gifts made.0 new made.3) same)
calm_all read is (suc calm) [] gifts old new few made same = absurd made
calm_all read is (suc calm) (cue ∷ cues) [] old new few made same = absurd made
calm_all read is (suc calm) (cue ∷ cues) (gift ∷ gifts) old new few made same =
    ap suc (calm_all read is calm cues gifts made.0 new (omega (arith, few)) made.3 (same ∙ sym made.2))
