-- Rounds, of whatever actions: where a place stands in the order, and that it comes forward.
use Rattle.std.proofs.Common.{◌≡◌, ◌≢◌, ◌⊎◌, ◌∙◌, ℕ, zero, suc, ◌+◌, ◌-◌, ◌<◌, ◌≤◌, Bool, true, false, not, ◌&&◌, cond, true≢false}
use Rattle.std.proofs.Common.{Option, Some, None, List, [], ◌∷◌, ◌++◌, length, length-append, get_or, take, drop, drop-cons, append_assoc, eqb, remove, slice_get}
use Rattle.std.proofs.Common.{refl, sym, ap, subst, inl, inr, arith, nat_lt}
use Rattle.std.proofs.lemmas.Bool.{cases_Bool, eqb-true}
use Rattle.std.proofs.lemmas.List.{get_or_append_left, get_or_at, take-append-drop}
use Rattle.std.proofs.lemmas.List.Edits.{length-remove, remove-append_left, remove-append_right}
use Rattle.std.proofs.lemmas.List.FromFn.{get_or-range_with_len, length-range_with_len}
use Rattle.std.proofs.lemmas.List.Sums.{prefix_len_passes, prefix_len-le-length}
use Rattle.std.proofs.lemmas.Option.{get_or_from_slice_get, slice_get_within}
use Rattle.std.specs.List.{range_with_len, position, position_or_len, prefix_len}
use Rattle.tool_scheduler.proofs.FairLemmas.{first_before}
use Rattle.tool_scheduler.proofs.RoundLemmas.{leaves_address, leaves_place, ready_is, takes_ready}
use Rattle.tool_scheduler.specs.Order.{Takes, first_ready, is_ready}
use Rattle.tool_scheduler.specs.Rounds.{Began, RoundAction, Ended, Gave, IsRoundDone, IsNext, LeavesAddress, LeavesPlace, RoundStanding, Step, Steps, TakesTurnInOrder}
use Rattle.tool_scheduler.specs.Rounds.{host_in, is_same, start}
use Rattle.tool_scheduler.specs.Waits.{EachAddressHasATurn, HasTurn, NobodyHasTwoTurns, NobodyWaitsForLong, WaitsForTurn, begun}

-- ---- one turn, and where a place stands

-- a number is below another, or that, or above it
apart : (k n : ℕ) → (k < n) ⊎ ((k ≡ n) ⊎ (n < k))
apart k n = grind arith

-- where a place stands behind a turn of another or of its own
record Moved (front back : List ℕ) (place taker : ℕ) (is_before : Type 0) (rest : List ℕ) : Type 0 where
  before : List ℕ
  behind : List ℕ
  whole : rest ≡ before ++ place ∷ behind
  all : length before + length behind ≡ length front + length back
  forward : taker ≢ place → length before ≤ length front
  strictly : taker ≢ place → is_before → length before < length front

-- behind a turn of one before it, of itself, or of one behind it
moved_at :
    (front back rest : List ℕ) (place taker at : ℕ) (is_before : Type 0) → at < length (front ++ place ∷ back)
    → get_or (front ++ place ∷ back) at taker ≡ taker → rest ≡ remove (front ++ place ∷ back) at ++ taker ∷ []
    → (is_before → at ≤ length front) → Moved front back place taker is_before rest
moved_at front back rest place taker at is_before within one is early =
    elim (apart at (length front)) [
      | inl below ↦
          let shorter : length (remove front at) + 1 ≡ length front = length-remove front at below in
          record {
            before = remove front at;
            behind = back ++ taker ∷ [];
            whole = is ∙ ap (λ xs. xs ++ taker ∷ []) (remove-append_left front (place ∷ back) at below)
                ∙ append_assoc (remove front at) (place ∷ back) (taker ∷ []);
            all = omega (arith, shorter, length-append back (taker ∷ []));
            forward = λ _. omega (arith, shorter);
            strictly = λ _ _. omega (arith, shorter);
          }
      | inr (inl here) ↦
          let itself : taker ≡ place = sym one ∙ get_or_at front place back taker at (sym here) in
          let first : at - length front ≡ zero = omega (arith, here) in
          let gone : remove (front ++ place ∷ back) at ≡ front ++ back =
          remove-append_right front (place ∷ back) (length front) at refl (omega (arith, here))
          ∙ ap (λ k. front ++ remove (place ∷ back) k) first in
          record {
            before = front ++ back;
            behind = [];
            whole = is ∙ ap (λ xs. xs ++ taker ∷ []) gone ∙ ap (λ x. (front ++ back) ++ x ∷ []) itself;
            all = omega (arith, length-append front back);
            forward = λ other. absurd (other itself);
            strictly = λ other _. absurd (other itself);
          }
      | inr (inr above) ↦
          let long : length (front ++ place ∷ back) ≡ length front + length (place ∷ back) = length-append front (place ∷ back) in
          let inside : at - length front - 1 < length back = omega (arith, long, within, above) in
          let shorter : length (remove back (at - length front - 1)) + 1 ≡ length back = length-remove back (at - length front - 1) inside in
          let later : at - length front ≡ suc (at - length front - 1) = omega (arith, above) in
          let gone : remove (front ++ place ∷ back) at ≡ front ++ place ∷ remove back (at - length front - 1) =
          remove-append_right front (place ∷ back) (length front) at refl (omega (arith, above))
          ∙ ap (λ k. front ++ remove (place ∷ back) k) later in
          record {
            before = front;
            behind = remove back (at - length front - 1) ++ taker ∷ [];
            whole = is ∙ ap (λ xs. xs ++ taker ∷ []) gone ∙ append_assoc front (place ∷ remove back (at - length front - 1)) (taker ∷ []);
            all = omega (arith, shorter, length-append (remove back (at - length front - 1)) (taker ∷ []));
            forward = λ _. omega arith;
            strictly = λ _ early_too. absurd (omega (arith, above, early early_too));
          }
    ]

-- so it is behind each turn: a place that is ready comes forward by the turn of another
moved :
    (ready : List Bool) (front back rest : List ℕ) (place taker : ℕ) → Takes ready (front ++ place ∷ back) taker rest
    → Moved front back place taker (is_ready ready place ≡ true) rest
moved ready front back rest place taker (at, first, stood, is) =
    moved_at front back rest place taker at (is_ready ready place ≡ true) (slice_get_within (front ++ place ∷ back) at taker stood)
    (get_or_from_slice_get (front ++ place ∷ back) at taker taker stood) is
    (λ ready_now. first_before ready front back place at ready_now first)

-- where none of some places is ready, this one is not
none_ready : (ready : List Bool) (front back : List ℕ) (place : ℕ) → first_ready ready (front ++ place ∷ back) ≡ None → is_ready ready place ≡ false
unfolding first_ready
none_ready ready front back place none =
    not_true (is_ready ready place) (ap (λ p. not (is_ready ready p)) (sym (get_or_at front place back 0 (length front) refl))
    ∙ prefix_len_passes (λ p. not (is_ready ready p)) (front ++ place ∷ back) (length front) 0 (omega (arith, past, length-append front (place ∷ back))))
  where
    not_true : (b : Bool) → not b ≡ true → b ≡ false
    not_true true is = absurd (true≢false (sym is))
    not_true false is = refl

    never : (k n : ℕ) → cond (nat_lt k n) (Some k) None ≡ None → n ≤ k
    never k n none = grind arith

    past : length (front ++ place ∷ back) ≤ prefix_len (λ p. not (is_ready ready p)) (front ++ place ∷ back)
    past = never (prefix_len (λ p. not (is_ready ready p)) (front ++ place ∷ back)) (length (front ++ place ∷ back)) none

-- ---- how a place stands, whatever was told

-- a place stands somewhere in the order, and is not among the first while the others have their turns
record Stands (count place : ℕ) (now : RoundStanding) : Type 0 where
  front : List ℕ
  back : List ℕ
  whole : now.order ≡ front ++ place ∷ back
  all : length front + length back + 1 ≡ count
  alone : now.others ≡ true → is_ready now.first place ≡ false

-- once one of each address had its turn, it is not among the first
done_not_first : (count place : ℕ) (now : RoundStanding) → Stands count place now → IsRoundDone now → is_ready now.first place ≡ false
done_not_first count place now stands (inl others) = stands.alone others
done_not_first count place now stands (inr none) =
    none_ready now.first stands.front stands.back place (subst (λ order. first_ready now.first order ≡ None) stands.whole none)

-- where it stands behind a turn
moved_next :
    (count place : ℕ) (old : RoundStanding) (stands : Stands count place old) (taker : ℕ) (rest : List ℕ) (others : Bool) → IsNext old taker rest others
    → Moved stands.front stands.back place taker (is_ready old.first place ≡ true) rest
moved_next count place old stands taker rest others (inl (going, still, takes)) =
    moved old.first stands.front stands.back rest place taker (subst (λ order. Takes old.first order taker rest) stands.whole takes)
moved_next count place old stands taker rest others (inr (done, over, takes)) =
    let all : Moved stands.front stands.back place taker (is_ready old.ready place ≡ true) rest =
    moved old.ready stands.front stands.back rest place taker (subst (λ order. Takes old.ready order taker rest) stands.whole takes) in
    record {
      before = all.before;
      behind = all.behind;
      whole = all.whole;
      all = all.all;
      forward = all.forward;
      strictly = λ other first. absurd (true≢false (sym first ∙ done_not_first count place old stands done));
    }

-- behind a turn among the others it is not among the first either
alone_next :
    (count place : ℕ) (old : RoundStanding) (taker : ℕ) (new : RoundStanding) → Stands count place old → TakesTurnInOrder old taker new → new.others ≡ true
    → is_ready new.first place ≡ false
alone_next count place old taker new stands turns over = elim turns.next [
  | inl (going, still, takes) ↦ absurd (true≢false (sym over ∙ still))
  | inr (done, others, takes) ↦
      turns.first place ∙ ap (λ b. b && not (is_same old.hosts taker place)) (done_not_first count place old stands done)
]

-- so it stands behind a turn
abbrev stands_turn :
    (count place : ℕ) (old : RoundStanding) (taker : ℕ) (new : RoundStanding) → Stands count place old → TakesTurnInOrder old taker new → Stands count place new
stands_turn count place old taker new stands turns =
    let all : Moved stands.front stands.back place taker (is_ready old.first place ≡ true) new.order =
    moved_next count place old stands taker new.order new.others turns.next in
    record {
      front = all.before;
      back = all.behind;
      whole = all.whole;
      all = omega (arith, all.all, stands.all);
      alone = alone_next count place old taker new stands turns;
    }

-- as a round begins nothing of the order changes
abbrev stands_began :
    (count place : ℕ) (old : RoundStanding) (ready : List Bool) (hosts : List ℕ) → Stands count place old
    → Stands count place (record { order = old.order; first = ready; ready = ready; hosts = hosts; others = false })
stands_began count place old ready hosts stands = record {
  front = stands.front;
  back = stands.back;
  whole = stands.whole;
  all = stands.all;
  alone = λ over. absurd (true≢false (sym over));
}

-- and so behind whatever was told
stands_step : (count place : ℕ) (old : RoundStanding) (action : RoundAction) (new : RoundStanding) → Stands count place old → Step old action new → Stands count place new
stands_step count place old (Began ready hosts) new stands (done, is) =
    subst (Stands count place) (sym is) (stands_began count place old ready hosts stands)
stands_step count place old (Gave taker) new stands turns = stands_turn count place old taker new stands turns
stands_step count place old (Ended other) new stands is = subst (Stands count place) (sym is) stands

stands_steps :
    (count place : ℕ) (from : RoundStanding) (actions : List RoundAction) (to : RoundStanding) → Stands count place from → Steps from actions to → Stands count place to
stands_steps count place from [] to stands is = subst (Stands count place) (sym is) stands
stands_steps count place from (action ∷ actions) to stands (between, earlier, step) =
    stands_step count place between action to (stands_steps count place from actions between stands earlier) step

-- so each place stands at the start
stands_start : (count place : ℕ) → place < count → Stands count place (start count)
stands_start count place lt =
    let order : List ℕ = range_with_len 0 count in
    let long : length order ≡ count = length-range_with_len 0 count in
    let within : place < length order = omega (arith, long, lt) in
    let is : get_or order place place ≡ place = get_or-range_with_len 0 count place place lt ∙ omega arith in
    let whole : order ≡ take place order ++ place ∷ drop (suc place) order =
    sym (take-append-drop place order) ∙ ap (λ xs. take place order ++ xs) (drop-cons order place place within ∙ ap (λ x. x ∷ drop (suc place) order) is) in
    record {
      front = take place order;
      back = drop (suc place) order;
      whole = whole;
      all = omega (arith, long, ap length whole, length-append (take place order) (place ∷ drop (suc place) order));
      alone = λ over. ready_is [] place;
    }

-- ---- nobody waits for long

-- a place that waits while so many rounds began: for each of them it came forward by one, but for a round in which its address had no turn yet
record Holds (count place rounds : ℕ) (now : RoundStanding) : Type 0 where
  stands : Stands count place now
  room : rounds + length stands.front ≤ count
  more : is_ready now.first place ≡ false → rounds + length stands.front + 1 ≤ count

-- one round more
holds_began :
    (count place rounds : ℕ) (old new : RoundStanding) (ready : List Bool) (hosts : List ℕ) → Holds count place rounds old
    → Step old (Began ready hosts) new → is_ready ready place ≡ true → Holds count place (1 + rounds) new
holds_began count place rounds old new ready hosts holds (done, is) ready_now =
    subst (Holds count place (1 + rounds)) (sym is) (record {
      stands = stands_began count place old ready hosts holds.stands;
      room = omega (arith, holds.more (done_not_first count place old holds.stands done));
      more = λ gone. absurd (true≢false (sym ready_now ∙ gone));
    })

-- one turn more, of another
holds_gave :
    (count place rounds : ℕ) (old new : RoundStanding) (taker : ℕ) → Holds count place rounds old → TakesTurnInOrder old taker new → taker ≢ place
    → Holds count place rounds new
holds_gave count place rounds old new taker holds turns other =
    let all : Moved holds.stands.front holds.stands.back place taker (is_ready old.first place ≡ true) new.order =
    moved_next count place old holds.stands taker new.order new.others turns.next in
    record {
      stands = stands_turn count place old taker new holds.stands turns;
      room = omega (arith, holds.room, all.forward other);
      more = λ _. elim (cases_Bool (is_ready old.first place)) [
        | inl was ↦ omega (arith, holds.room, all.strictly other was)
        | inr gone ↦ omega (arith, holds.more gone, all.forward other)
      ];
    }

-- and so on
holds_steps :
    (count place : ℕ) (now : RoundStanding) (later : List RoundAction) (last : RoundStanding) → Holds count place 0 now → Steps now later last → WaitsForTurn place later
    → Holds count place (begun later) last
holds_steps count place now [] last holds is waits = subst (Holds count place 0) (sym is) holds
holds_steps count place now (Began ready hosts ∷ later) last holds (between, earlier, step) (ready_now, waits) =
    holds_began count place (begun later) between last ready hosts (holds_steps count place now later between holds earlier waits) step ready_now
holds_steps count place now (Gave taker ∷ later) last holds (between, earlier, step) (other, waits) =
    holds_gave count place (begun later) between last taker (holds_steps count place now later between holds earlier waits) step other
holds_steps count place now (Ended other ∷ later) last holds (between, earlier, is) waits =
    subst (Holds count place (begun later)) (sym is) (holds_steps count place now later between holds earlier waits)

-- before whoever is ready has its turn, at most as many rounds begin as there are places
pub nobody_waits_for_long : NobodyWaitsForLong
nobody_waits_for_long count earlier later now last place lt before after waits =
    let stands : Stands count place now = stands_steps count place (start count) earlier now (stands_start count place lt) before in
    let holds : Holds count place (begun later) last = holds_steps count place now later last
    (record { stands = stands; room = omega (arith, stands.all); more = λ _. omega (arith, stands.all) }) after waits in
    omega (arith, holds.room)

-- ---- nobody has two turns

-- actions in two parts
steps_split :
    (from : RoundStanding) (first second : List RoundAction) (to : RoundStanding) → Steps from (second ++ first) to
    → (mid : RoundStanding) × Steps from first mid × Steps mid second to
steps_split from first [] to steps = (to, steps, refl)
steps_split from first (action ∷ second) to (between, earlier, step) =
    let parts = steps_split from first second between earlier in (parts.0, parts.1, (between, parts.2, step))

-- who is ready no more is not until a round begins
gone_steps :
    (place : ℕ) (from : RoundStanding) (later : List RoundAction) (to : RoundStanding) → Steps from later to → is_ready from.first place ≡ false
    → is_ready from.ready place ≡ false → (0 < begun later) ⊎ ((is_ready to.first place ≡ false) × (is_ready to.ready place ≡ false))
gone_steps place from [] to is first ready =
    inr (ap (λ now. is_ready now.first place) is ∙ first, ap (λ now. is_ready now.ready place) is ∙ ready)
gone_steps place from (Began ready_now hosts ∷ later) to steps first ready = inl (omega arith)
gone_steps place from (Gave taker ∷ later) to (between, earlier, turns) first ready =
    elim (gone_steps place from later between earlier first ready) [
      | inl began ↦ inl began
      | inr (not_first, not_ready) ↦ inr (
        turns.first place ∙ ap (λ b. b && not (is_same between.hosts taker place)) not_first,
        turns.ready place ∙ ap (λ b. b && not (eqb place taker)) not_ready,
      )
    ]
gone_steps place from (Ended other ∷ later) to (between, earlier, is) first ready =
    elim (gone_steps place from later between earlier first ready) [
      | inl began ↦ inl began
      | inr (not_first, not_ready) ↦ inr (
        ap (λ now. is_ready now.first place) is ∙ not_first,
        ap (λ now. is_ready now.ready place) is ∙ not_ready,
      )
    ]

-- who is ready no more takes no turn
no_turn : (place : ℕ) (now next : RoundStanding) → TakesTurnInOrder now place next → is_ready now.first place ≡ false → is_ready now.ready place ≡ false → ⊥
no_turn place now next turns first ready = elim turns.next [
  | inl (going, still, takes) ↦ true≢false (sym (takes_ready now.first now.order next.order place takes) ∙ first)
  | inr (done, others, takes) ↦ true≢false (sym (takes_ready now.ready now.order next.order place takes) ∙ ready)
]

-- between two turns of one place a round began
pub nobody_has_two_turns : NobodyHasTwoTurns
nobody_has_two_turns count earlier later last place (between, steps, second) =
    let parts = steps_split (start count) (Gave place ∷ earlier) later between steps in
    two count earlier later last place between second parts.0 parts.1 parts.2
  where
    two :
        (count : ℕ) (earlier later : List RoundAction) (last : RoundStanding) (place : ℕ) (between : RoundStanding) → TakesTurnInOrder between place last → (mid : RoundStanding)
        → Steps (start count) (Gave place ∷ earlier) mid → Steps mid later between → 0 < begun later
    two count earlier later last place between second mid (before, _, one) steps = elim (
        gone_steps place mid later between steps (leaves_address before.hosts place before.first mid.first one.first)
        (leaves_place place before.ready mid.ready one.ready)) [
          | inl began ↦ began
          | inr (not_first, not_ready) ↦ absurd (no_turn place between last second not_first not_ready)
        ]

-- ---- each address has a turn

-- a place that is among the first stays so until one of its address has a turn
served_steps :
    (place : ℕ) (hosts : List ℕ) (from : RoundStanding) (later : List RoundAction) (to : RoundStanding) → from.hosts ≡ hosts → Steps from later to → begun later ≡ 0
    → is_ready from.first place ≡ true
    → (to.hosts ≡ hosts) × ((is_ready to.first place ≡ true) ⊎ ((other : ℕ) × HasTurn other later × (host_in hosts other ≡ host_in hosts place)))
served_steps place hosts from [] to same is none first = (ap (λ now. now.hosts) is ∙ same, inl (ap (λ now. is_ready now.first place) is ∙ first))
served_steps place hosts from (Began ready then_hosts ∷ later) to same steps none first = absurd (omega (arith, none))
served_steps place hosts from (Gave taker ∷ later) to same (between, earlier, turns) none first =
    let so_far = served_steps place hosts from later between same earlier none first in (
      turns.hosts ∙ so_far.0,
      elim so_far.1 [
        | inr (other, has, is) ↦ inr (other, inr has, is)
        | inl still ↦ elim (cases_Bool (is_same between.hosts taker place)) [
          | inl one ↦ inr (
            taker,
            inl refl,
            subst (λ h. host_in h taker ≡ host_in h place) so_far.0
                (sym (eqb-true (host_in between.hosts place) (host_in between.hosts taker) one)),
          )
          | inr other ↦ inl (turns.first place ∙ ap (λ b. b && not (is_same between.hosts taker place)) still ∙ ap not other)
        ]
      ],
    )
served_steps place hosts from (Ended other ∷ later) to same (between, earlier, is) none first =
    let so_far = served_steps place hosts from later between same earlier none first in (
      ap (λ now. now.hosts) is ∙ so_far.0,
      elim so_far.1 [
        | inr has ↦ inr has
        | inl still ↦ inl (ap (λ now. is_ready now.first place) is ∙ still)
      ],
    )

-- in a round that is over each address of which a session was ready has had a turn
pub each_address_has_a_turn : EachAddressHasATurn
each_address_has_a_turn count earlier later ready then_ready hosts then_hosts last place lt (between, steps, (done, _)) none ready_now =
    let parts = steps_split (start count) (Began ready hosts ∷ earlier) later between steps in
    one count earlier later ready hosts place between (stands_steps count place (start count) (later ++ Began ready hosts ∷ earlier) between
    (stands_start count place lt) steps) done parts.0 parts.1 parts.2 none ready_now
  where
    one :
        (count : ℕ) (earlier later : List RoundAction) (ready : List Bool) (hosts : List ℕ) (place : ℕ) (between : RoundStanding) → Stands count place between
        → IsRoundDone between → (mid : RoundStanding) → Steps (start count) (Began ready hosts ∷ earlier) mid → Steps mid later between → begun later ≡ 0
        → is_ready ready place ≡ true → (other : ℕ) × HasTurn other later × (host_in hosts other ≡ host_in hosts place)
    one count earlier later ready hosts place between stands done mid (before, _, (_, is)) steps none ready_now = elim (
        served_steps place hosts mid later between (ap (λ now. now.hosts) is) steps none (ap (λ now. is_ready now.first place) is ∙ ready_now)).1 [
          | inl still ↦ absurd (true≢false (sym still ∙ done_not_first count place between stands done))
          | inr has ↦ has
        ]
