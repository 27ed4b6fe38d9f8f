-- Turns in order: who takes one stood before the place that is passed over, and stands after it from then on.
use Rattle.std.proofs.Common.{◌≡◌, ◌≢◌, ◌⊎◌, ◌∙◌, ℕ, suc, ◌+◌, ◌<◌, ◌≤◌, Bool, true, true≢false, List, [], ◌∷◌, ◌++◌, Some, length, length-append}
use Rattle.std.proofs.Common.{get_or, take, drop, drop-cons, slice_get, All, Contains, IsPermutation, remove, append_assoc}
use Rattle.std.proofs.Common.{refl, sym, ap, subst, inl, inr, arith}
use Rattle.std.proofs.lemmas.List.{get_or_append_left, get_or_at, take-append-drop}
use Rattle.std.proofs.lemmas.List.Edits.{length-remove, get_or-remove_below, get_or-remove_above, remove-append_left}
use Rattle.std.proofs.lemmas.List.Elements.{All-cons, All-contains_itself}
use Rattle.std.proofs.lemmas.List.FromFn.{get_or-range_with_len, length-range_with_len}
use Rattle.std.proofs.lemmas.List.Kept.{AllPairs-cons}
use Rattle.std.proofs.lemmas.List.Quantifiers.{all_pairs_push, all_pairs_remove, position-Some}
use Rattle.std.proofs.lemmas.List.Sorted.{IsPermutation-refl, IsPermutation-remove, IsPermutation-sym, IsPermutation-to_front, IsPermutation-trans}
use Rattle.std.proofs.lemmas.List.Sorted.{All-permutation, length_permutation}
use Rattle.std.proofs.lemmas.Option.{get_or_from_slice_get, slice_get-get_or, slice_get_within}
use Rattle.std.specs.List.{range_with_len}
use Rattle.tool_scheduler.specs.Order.{Takes, first_ready, is_ready}
use Rattle.tool_scheduler.specs.Fair.{Turn, Reorders, IsPassedOver, takers, AreDifferent, NobodyIsPassedTwice, PlacesStay, FairFromTheStart}

-- ---- lists from which one is removed

-- a number is below another or not
below_or_not : (k i : ℕ) → (k < i) ⊎ (i ≤ k)
below_or_not k i = grind arith

-- where all are different, what is left is not the one that was removed
left_differs :
    (xs : List ℕ) (i x k d : ℕ) → AreDifferent xs → slice_get xs i ≡ Some x → k < length (remove xs i) → get_or (remove xs i) k d ≢ x
left_differs xs i x k d differ at lt same =
    let within : i < length xs = slice_get_within xs i x at in
    let one : get_or xs i d ≡ x = get_or_from_slice_get xs i x d at in
    let shorter : length (remove xs i) + 1 ≡ length xs = length-remove xs i within in
    elim (below_or_not k i) [
      | inl below ↦ differ k i d below within (sym (get_or-remove_below xs i d k below within) ∙ same ∙ sym one)
      | inr above ↦ differ i (k + 1) d (omega arith) (omega arith) (one ∙ sym same ∙ get_or-remove_above xs i d k above within)
    ]

-- what is left was there before
left_was : (xs : List ℕ) (i x : ℕ) → i < length xs → Contains (remove xs i) x → Contains xs x
left_was xs i x within (k, lt, is) =
    let shorter : length (remove xs i) + 1 ≡ length xs = length-remove xs i within in
    elim (below_or_not k i) [
      | inl below ↦ (k, omega arith, sym (get_or-remove_below xs i x k below within) ∙ is)
      | inr above ↦ (k + 1, omega arith, sym (get_or-remove_above xs i x k above within) ∙ is)
    ]

-- the front of a list whose elements are all different
front_differs : (xs ys : List ℕ) → AreDifferent (xs ++ ys) → AreDifferent xs
front_differs xs ys differ i j d below lt same =
    let all : length (xs ++ ys) ≡ length xs + length ys = length-append xs ys in
    let first : i < length xs = omega arith in
    differ i j d below (omega arith) (get_or_append_left xs ys d i first ∙ same ∙ sym (get_or_append_left xs ys d j lt))

-- ---- one turn

-- who takes a turn while a place is passed over stood before it, and comes last
record Passes (front back : List ℕ) (place taker : ℕ) (rest : List ℕ) : Type 0 where
  at : ℕ
  within : at < length front
  stood : slice_get front at ≡ Some taker
  is : rest ≡ remove front at ++ place ∷ (back ++ taker ∷ [])

-- the first that is ready stands before a place that is ready, or is that
pub first_before :
    (ready : List Bool) (front back : List ℕ) (place at : ℕ) → is_ready ready place ≡ true
    → first_ready ready (front ++ place ∷ back) ≡ Some at → at ≤ length front
unfolding first_ready
first_before ready front back place at ready_now is =
    let found = position-Some (is_ready ready) (front ++ place ∷ back) at 0 is in
    let here : get_or (front ++ place ∷ back) (length front) 0 ≡ place = get_or_at front place back 0 (length front) refl in
    elim (below_or_not (length front) at) [
      | inl below ↦ absurd (true≢false (sym ready_now ∙ sym (ap (is_ready ready) here) ∙ found.2 (length front) below))
      | inr above ↦ above
    ]

-- a turn that passes a ready place over is of one before it
passes :
    (ready : List Bool) (front back rest : List ℕ) (place taker : ℕ) → is_ready ready place ≡ true → taker ≢ place
    → Takes ready (front ++ place ∷ back) taker rest → Passes front back place taker rest
passes ready front back rest place taker ready_now other (at, first, stood, is) =
    let least : at ≤ length front = first_before ready front back place at ready_now first in
    let one : get_or (front ++ place ∷ back) at taker ≡ taker = get_or_from_slice_get (front ++ place ∷ back) at taker taker stood in
    let not_it : at ≢ length front = λ same. other (sym one ∙ get_or_at front place back taker at (sym same)) in
    let within : at < length front = omega arith in
    let in_front : get_or front at taker ≡ taker = sym (get_or_append_left front (place ∷ back) taker at within) ∙ one in
    record {
      at = at;
      within = within;
      stood = slice_get-get_or front at taker within ∙ ap Some in_front;
      is = is ∙ ap (λ xs. xs ++ taker ∷ []) (remove-append_left front (place ∷ back) at within) ∙ append_assoc (remove front at) (place ∷ back) (taker ∷ []);
    }

-- ---- turns in order

-- those who take the turns are different, and each of them stood before the place that is passed over
record Passed (front : List ℕ) (turns : List Turn) : Type 0 where
  different : AreDifferent (takers turns)
  stood : All (Contains front) (takers turns)
  few : length turns ≤ length front

-- a turn more before the others: its taker is none of those that are left in front, of whom all later takers are
passed_one :
    (front : List ℕ) (at : ℕ) (turn : Turn) (turns : List Turn) → AreDifferent front → slice_get front at ≡ Some turn.place
    → Passed (remove front at) turns → Passed front (turn ∷ turns)
passed_one front at turn turns differ is rest =
    let within : at < length front = slice_get_within front at turn.place is in
    let shorter : length (remove front at) + 1 ≡ length front = length-remove front at within in
    let others : All (λ other. turn.place ≢ other) (takers turns) =
    λ k d lt same. let one = rest.stood k d lt in
    left_differs front at turn.place one.0 (get_or (takers turns) k d) differ is one.1 (one.2 ∙ sym same) in
    record {
      different = AllPairs-cons (λ one other. one ≢ other) turn.place (takers turns) others rest.different;
      stood = All-cons (Contains front) turn.place (takers turns) (at, within, get_or_from_slice_get front at turn.place turn.place is)
          (λ k d lt. left_was front at (get_or (takers turns) k d) within (rest.stood k d lt));
      few = omega (arith, shorter, rest.few);
    }

-- so it is of all turns that pass a place over
passed :
    (front back last : List ℕ) (place : ℕ) (turns : List Turn) → AreDifferent front → Reorders (front ++ place ∷ back) turns last
    → IsPassedOver place turns → Passed front turns
passed front back last place [] differ leads over =
    record { different = λ i j d below lt same. omega (arith, lt); stood = λ k d lt. absurd (omega (arith, lt)); few = omega arith }
passed front back last place (turn ∷ turns) differ (rest, takes, leads) (ready_now, other, over) =
    let one : Passes front back place turn.place rest = passes turn.ready front back rest place turn.place ready_now other takes in
    passed_one front one.at turn turns differ one.stood
    (passed (remove front one.at) (back ++ turn.place ∷ []) last place turns (all_pairs_remove (λ one other. one ≢ other) front one.at one.within differ)
    (subst (λ xs. Reorders xs turns last) one.is leads) over)

-- only the places in front of one that is passed over take turns, each of them one at most
pub nobody_is_passed_twice : NobodyIsPassedTwice
nobody_is_passed_twice places last turns place differ (at, within, is) leads over =
    let front : List ℕ = take at places in
    let back : List ℕ = drop (suc at) places in
    let whole : places ≡ front ++ place ∷ back =
    sym (take-append-drop at places) ∙ ap (λ xs. front ++ xs) (drop-cons places at place within ∙ ap (λ x. x ∷ back) is) in
    let all : Passed front turns =
    passed front back last place turns (front_differs front (place ∷ back) (subst AreDifferent whole differ))
    (subst (λ xs. Reorders xs turns last) whole leads) over in
    let long : length places ≡ length front + length (place ∷ back) = ap length whole ∙ length-append front (place ∷ back) in
    (all.different, omega (arith, long, all.few))

-- ---- the places stay

-- a turn moves its taker to the end, and so leaves the same places
pub places_stay : PlacesStay
places_stay places last [] is = (subst (IsPermutation places) (sym is) (IsPermutation-refl places), subst AreDifferent (sym is))
places_stay places last (turn ∷ turns) (rest, (at, first, stood, is), leads) =
    let within : at < length places = slice_get_within places at turn.place stood in
    let one : turn.place ≡ get_or places at turn.place = sym (get_or_from_slice_get places at turn.place turn.place stood) in
    let moved : IsPermutation places rest =
    IsPermutation-trans places (turn.place ∷ remove places at) rest (IsPermutation-remove places at turn.place within one)
    (subst (IsPermutation (turn.place ∷ remove places at)) (sym is)
    (IsPermutation-sym (remove places at ++ turn.place ∷ []) (turn.place ∷ remove places at) (IsPermutation-to_front (remove places at) turn.place))) in
    let then = places_stay rest last turns leads in (
      IsPermutation-trans places rest last moved then.0,
      λ differ. then.1 (subst AreDifferent (sym is)
          (all_pairs_push (λ one other. one ≢ other) (remove places at) turn.place (all_pairs_remove (λ one other. one ≢ other) places at within differ)
          (λ k d lt. left_differs places at turn.place k d differ stood lt))),
    )

-- ---- from the start

-- the places from 0 on are different
start_differs : (count : ℕ) → AreDifferent (range_with_len 0 count)
start_differs count i j d below lt same =
    let long : length (range_with_len 0 count) ≡ count = length-range_with_len 0 count in
    let one : get_or (range_with_len 0 count) i d ≡ 0 + i = get_or-range_with_len 0 count i d (omega arith) in
    let other : get_or (range_with_len 0 count) j d ≡ 0 + j = get_or-range_with_len 0 count j d (omega arith) in
    omega arith

-- each place below the count is one of them
start_contains : (count place : ℕ) → place < count → Contains (range_with_len 0 count) place
start_contains count place lt =
    let long : length (range_with_len 0 count) ≡ count = length-range_with_len 0 count in
    let same : 0 + place ≡ place = omega arith in
    (place, omega arith, get_or-range_with_len 0 count place place lt ∙ same)

-- what a list contains it contains in another order too
contains_moved : (xs ys : List ℕ) (x : ℕ) → IsPermutation xs ys → Contains xs x → Contains ys x
contains_moved xs ys x moved (k, lt, is) =
    subst (Contains ys) is (All-permutation (Contains ys) ys xs (IsPermutation-sym xs ys moved) (All-contains_itself ys) k x lt)

-- the places are different at the start, and stay so; so the law holds after whatever turns
pub fair_from_start : FairFromTheStart
fair_from_start count earlier later now last place lt before after over =
    let start : List ℕ = range_with_len 0 count in
    let stay : IsPermutation start now × (AreDifferent start → AreDifferent now) = places_stay start now earlier before in
    let fair : AreDifferent (takers later) × (length later < length now) =
    nobody_is_passed_twice now last later place (stay.1 (start_differs count))
    (contains_moved start now place stay.0 (start_contains count place lt)) after over in
    let long : length now ≡ count = length_permutation start now stay.0 ∙ length-range_with_len 0 count in
    (fair.0, omega (arith, long, fair.1))
