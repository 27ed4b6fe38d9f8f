-- Rounds: what is told is put together, and after each turn fewer wait.
use Rattle.std.proofs.Common.{◌≡◌, ◌≢◌, ◌∙◌, ℕ, zero, suc, ◌+◌, ◌<◌, ◌≤◌, Bool, true, false, not, ◌&&◌, cond, true≢false}
use Rattle.std.proofs.Common.{Option, Some, None, List, [], ◌∷◌, ◌++◌, length, get_or, append_assoc, eqb, unwrap_or, slice_get}
use Rattle.std.proofs.Common.{refl, sym, ap, subst, inl, inr, arith, replicate, set}
use Rattle.std.proofs.lemmas.Bool.{and_parts, cases_eq, cases_lt, eq-eqb}
use Rattle.std.proofs.lemmas.Grind.{get_or-set_at}
use Rattle.std.proofs.lemmas.List.{get_or-replicate, get_or-set_other, length-replicate, set_past}
use Rattle.std.proofs.lemmas.List.Quantifiers.{position-Some}
use Rattle.std.proofs.lemmas.Option.{get_or_from_slice_get, slice_get_past, unwrap_or-slice_get}
use Rattle.std.specs.List.{range_with_len}
use Rattle.ftp_ports.specs.Asking.{Adds}
use Rattle.tool_scheduler.specs.Order.{LeavesOne, Takes, first_ready, is_ready, is_so}
use Rattle.tool_scheduler.specs.Rounds.{AreEnded, AreRounds, HaveSlots, Began, ComesMeanwhile, RoundAction, Ended, Gave, GoesOnTo, IsRoundDone, LeavesAddress, LeavesPlace, Spares}
use Rattle.tool_scheduler.specs.Rounds.{RoundStanding, Step, Steps, action_of, host_in, is_same, is_slot_taken, ones, round_standing, start, told_if}
use Rattle.tool_scheduler.specs.declared.slot.Turn.{Turn}
use Rattle.tool_scheduler.specs.declared.waiting.WaitQueue.{WaitQueue}

-- ---- what was told

-- where nothing was told, nothing is told
pub adds_nothing : {A : Type 0} → (told : Option (List A)) → Adds told told []
adds_nothing None = tt
adds_nothing (Some told) = refl

-- what was told first, and then
pub adds_then : {A : Type 0} → (a b c : Option (List A)) (first second : List A) → Adds a b first → Adds b c second → Adds a c (second ++ first)
adds_then None None None first second one two = tt
adds_then None None (Some z) first second one two = absurd two
adds_then None (Some y) c first second one two = absurd one
adds_then (Some x) None c first second one two = absurd one
adds_then (Some x) (Some y) None first second one two = absurd two
adds_then (Some x) (Some y) (Some z) first second one two = two ∙ ap (λ l. second ++ l) one ∙ sym (append_assoc second first x)

-- actions lead on
pub steps_then :
    (from mid to : RoundStanding) (first second : List RoundAction) → Steps from first mid → Steps mid second to → Steps from (second ++ first) to
steps_then from mid to first [] one two = subst (Steps from first) (sym two) one
steps_then from mid to first (action ∷ second) one (between, earlier, step) =
    (between, steps_then from mid between first second one earlier, step)

-- turns beside the order leave how a round stands
pub ended_steps : (actions : List RoundAction) (from : RoundStanding) → AreEnded actions → Steps from actions from
ended_steps [] from ended = refl
ended_steps (Began ready hosts ∷ actions) from ended = absurd ended
ended_steps (Gave place ∷ actions) from ended = absurd ended
ended_steps (Ended place ∷ actions) from ended = (from, ended_steps actions from ended, refl)

-- so many such turns, and then so many
ended_then : (first second : List RoundAction) → AreEnded first → AreEnded second → AreEnded (second ++ first)
ended_then first [] one two = one
ended_then first (Began ready hosts ∷ second) one two = absurd two
ended_then first (Gave place ∷ second) one two = absurd two
ended_then first (Ended place ∷ second) one two = ended_then first second one two

-- no such turn was told
pub spares_nothing : (told : Option (List RoundAction)) → Spares told told
spares_nothing told = ([], adds_nothing told, tt)

-- such turns, and then such turns
pub spares_then : (a b c : Option (List RoundAction)) → Spares a b → Spares b c → Spares a c
spares_then a b c (first, told, ended) (second, then_told, then_ended) =
    (second ++ first, adds_then a b c first second told then_told, ended_then first second ended then_ended)

-- one such turn or none
pub spares_one : (is_there : Bool) (a b : Option (List RoundAction)) (place : ℕ) → Adds a b (cond is_there (Ended place ∷ []) []) → Spares a b
spares_one true a b place told = (Ended place ∷ [], told, tt)
spares_one false a b place told = ([], told, tt)

-- nothing was told yet
pub comes_nothing : (told : Option (List RoundAction)) (from : RoundStanding) → ComesMeanwhile told told from from
comes_nothing told from = ([], adds_nothing told, refl)

-- one action more
pub comes_more :
    (a b c : Option (List RoundAction)) (from mid to : RoundStanding) (action : RoundAction) → ComesMeanwhile a b from mid → Adds b c (action ∷ []) → Step mid action to → ComesMeanwhile a c from to
comes_more a b c from mid to action (actions, told, steps) more step =
    (action ∷ actions, adds_then a b c actions (action ∷ []) told more, (mid, steps, step))

-- what is told of a round and what was told of the first turns
pub comes_then :
    (a b c : Option (List RoundAction)) (from mid : RoundStanding) (order : List ℕ) → ComesMeanwhile a b from mid → GoesOnTo b c mid order → GoesOnTo a c from order
comes_then a b c from mid order (actions, told, steps) (more, to, then_told, then_steps, done, is) =
    (more ++ actions, to, adds_then a b c actions more told then_told, steps_then from mid to actions more steps then_steps, done, is)

-- turns beside the order after a round
pub goes_spares :
    (a b c : Option (List RoundAction)) (from : RoundStanding) (order : List ℕ) → GoesOnTo a b from order → Spares b c → GoesOnTo a c from order
goes_spares a b c from order (actions, to, told, steps, done, is) (more, then_told, ended) =
    (more ++ actions, to, adds_then a b c actions more told then_told, steps_then from to to actions more steps (ended_steps more to ended), done, is)

-- ---- who waits

-- a place is ready where the list says so
pub ready_is : (ready : List Bool) (place : ℕ) → is_ready ready place ≡ get_or ready place false
ready_is ready place = so_is (slice_get ready place) ∙ unwrap_or-slice_get ready place false
  where
    so_is : (said : Option Bool) → is_so said ≡ unwrap_or said false
    so_is (Some said) = refl
    so_is None = refl

-- who takes a turn is ready
pub takes_ready : (ready : List Bool) (places rest : List ℕ) (place : ℕ) → Takes ready places place rest → is_ready ready place ≡ true
unfolding first_ready
takes_ready ready places rest place (at, first, stood, is) =
    let found = position-Some (is_ready ready) places at 0 first in
    subst (λ p. is_ready ready p ≡ true) (get_or_from_slice_get places at place 0 stood) found.1

-- what is so is not not so
not_both : (a b : Bool) → b ≡ true → (a && not b) ≡ false
not_both true true so = refl
not_both true false so = absurd (true≢false (sym so))
not_both false b so = refl

-- whoever had a turn is none of those that are left of all addresses
pub leaves_address : (hosts : List ℕ) (place : ℕ) (old new : List Bool) → LeavesAddress hosts place old new → is_ready new place ≡ false
leaves_address hosts place old new leaves =
    leaves place ∙ not_both (is_ready old place) (is_same hosts place place) (eq-eqb (host_in hosts place) (host_in hosts place) refl)

-- nor of those that are left
pub leaves_place : (place : ℕ) (old new : List Bool) → LeavesPlace place old new → is_ready new place ≡ false
leaves_place place old new leaves = leaves place ∙ not_both (is_ready old place) (eqb place place) (eq-eqb place place refl)

-- whoever is left was there before
pub address_was : (hosts : List ℕ) (place : ℕ) (old new : List Bool) → LeavesAddress hosts place old new
    → (other : ℕ) → is_ready new other ≡ true → is_ready old other ≡ true
address_was hosts place old new leaves other ready =
    (and_parts (is_ready old other) (not (is_same hosts place other)) (sym (leaves other) ∙ ready)).0

pub place_was : (place : ℕ) (old new : List Bool) → LeavesPlace place old new → (other : ℕ) → is_ready new other ≡ true → is_ready old other ≡ true
place_was place old new leaves other ready = (and_parts (is_ready old other) (not (eqb other place)) (sym (leaves other) ∙ ready)).0

-- past the end none is ready
past_ready : (ready : List Bool) (place : ℕ) → length ready ≤ place → is_ready ready place ≡ false
past_ready ready place past = ap is_so (slice_get_past ready place past)

-- where one is set
set_here : (ready : List Bool) (i k : ℕ) (b : Bool) → k ≡ i → i < length ready → is_ready (set ready i b) k ≡ b
set_here ready i k b same within = ready_is (set ready i b) k ∙ get_or-set_at ready i k b false same within

set_else : (ready : List Bool) (i k : ℕ) (b : Bool) → k ≢ i → is_ready (set ready i b) k ≡ is_ready ready k
set_else ready i k b other = ready_is (set ready i b) k ∙ get_or-set_other ready i k b false other ∙ sym (ready_is ready k)

-- below a place those alone are left that pass a test
pub record Left (test : ℕ → Bool) (start ready : List Bool) (i : ℕ) : Type 0 where
  pub below : (k : ℕ) → k < i → is_ready ready k ≡ is_ready start k && test k
  pub above : (k : ℕ) → i ≤ k → is_ready ready k ≡ is_ready start k

-- at first none is tested
pub left_none : (test : ℕ → Bool) (ready : List Bool) → Left test ready ready 0
left_none test ready = record { below = λ k lt. absurd (omega (arith, lt)); above = λ k le. refl }

-- one more is
pub left_more :
    (test : ℕ → Bool) (start ready : List Bool) (i : ℕ) (b : Bool) → i < length ready → Left test start ready i → b ≡ (get_or ready i false && test i)
    → Left test start (set ready i b) (i + 1)
left_more test start ready i b within left is = record {
  below = λ k lt. elim (cases_eq k i) [
    | inl same ↦ set_here ready i k b same within ∙ is ∙ ap (λ r. r && test i) (sym (ready_is ready i) ∙ left.above i (omega arith))
        ∙ ap (λ p. is_ready start p && test p) (sym same)
    | inr other ↦ set_else ready i k b other ∙ left.below k (omega (arith, lt, other))
  ];
  above = λ k le. set_else ready i k b (λ same. omega (arith, le, same)) ∙ left.above k (omega (arith, le));
}

-- and at last all are
pub left_all :
    (test : ℕ → Bool) (start ready : List Bool) (n : ℕ) → length start ≤ n → Left test start ready n
    → (other : ℕ) → is_ready ready other ≡ is_ready start other && test other
left_all test start ready n long left other = elim (cases_lt other n) [
  | inl lt ↦ left.below other lt
  | inr le ↦ left.above other le ∙ past_ready start other (omega (arith, le, long))
      ∙ ap (λ r. r && test other) (sym (past_ready start other (omega (arith, le, long))))
]

-- those that are ready have slots, also after a turn of one that is ready no more
pub taken_but :
    {A : Type 0} → (old new : List Bool) (slots after : List (Option A)) (place : ℕ) → HaveSlots old slots → is_ready new place ≡ false
    → ((other : ℕ) → is_ready new other ≡ true → is_ready old other ≡ true)
    → ((other : ℕ) → other ≢ place → is_slot_taken after other ≡ is_slot_taken slots other) → HaveSlots new after
taken_but old new slots after place taken gone was same other ready =
    same other (λ is. true≢false (sym ready ∙ ap (is_ready new) is ∙ gone)) ∙ taken other (was other ready)

-- so it is of those that are left, and of those that are left of all addresses
pub taken_place :
    {A : Type 0} → (old new : List Bool) (slots after : List (Option A)) (place : ℕ) → LeavesPlace place old new → HaveSlots old slots
    → ((other : ℕ) → other ≢ place → is_slot_taken after other ≡ is_slot_taken slots other) → HaveSlots new after
taken_place old new slots after place leaves taken =
    taken_but old new slots after place taken (leaves_place place old new leaves) (place_was place old new leaves)

pub taken_address :
    {A : Type 0} → (hosts : List ℕ) (old new : List Bool) (slots after : List (Option A)) (place : ℕ) → LeavesAddress hosts place old new
    → HaveSlots old slots → ((other : ℕ) → other ≢ place → is_slot_taken after other ≡ is_slot_taken slots other) → HaveSlots new after
taken_address hosts old new slots after place leaves taken =
    taken_but old new slots after place taken (leaves_address hosts place old new leaves) (address_was hosts place old new leaves)

-- so have they where only one of those stays that may hash a password
pub taken_one :
    {A : Type 0} → (hashing : List Bool) (order : List ℕ) (old new : List Bool) (slots : List (Option A)) → LeavesOne hashing order old new → HaveSlots old slots
    → HaveSlots new slots
taken_one hashing order old new slots leaves taken place ready = taken place (and_parts _ _ (sym (leaves place) ∙ ready)).0

-- ---- fewer wait

-- where one is ready at all
some_one : (xs : List Bool) (p : ℕ) → get_or xs p false ≡ true → 0 < ones xs
some_one [] p was = absurd (true≢false (sym was))
some_one (true ∷ xs) p was = omega arith
some_one (false ∷ xs) zero was = absurd (true≢false (sym was))
some_one (false ∷ xs) (suc p) was = some_one xs p was

-- where each that is ready was ready, no more are
no_more : (xs ys : List Bool) → ((k : ℕ) → get_or ys k false ≡ true → get_or xs k false ≡ true) → ones ys ≤ ones xs
no_more xs [] sub = omega arith
no_more [] (true ∷ ys) sub = absurd (true≢false (sym (sub 0 refl)))
no_more [] (false ∷ ys) sub = no_more [] ys (λ k. sub (suc k))
no_more (true ∷ xs) (true ∷ ys) sub = omega (arith, no_more xs ys (λ k. sub (suc k)))
no_more (true ∷ xs) (false ∷ ys) sub = omega (arith, no_more xs ys (λ k. sub (suc k)))
no_more (false ∷ xs) (true ∷ ys) sub = absurd (true≢false (sym (sub 0 refl)))
no_more (false ∷ xs) (false ∷ ys) sub = no_more xs ys (λ k. sub (suc k))

-- and fewer where one of them is not
fewer :
    (xs ys : List Bool) (p : ℕ) → ((k : ℕ) → get_or ys k false ≡ true → get_or xs k false ≡ true) → get_or xs p false ≡ true → get_or ys p false ≡ false
    → ones ys < ones xs
fewer [] ys p sub was gone = absurd (true≢false (sym was))
fewer xs [] p sub was gone = some_one xs p was
fewer (x ∷ xs) (true ∷ ys) zero sub was gone = absurd (true≢false gone)
fewer (true ∷ xs) (false ∷ ys) zero sub was gone = omega (arith, no_more xs ys (λ k. sub (suc k)))
fewer (false ∷ xs) (false ∷ ys) zero sub was gone = absurd (true≢false (sym was))
fewer (true ∷ xs) (true ∷ ys) (suc p) sub was gone = omega (arith, fewer xs ys p (λ k. sub (suc k)) was gone)
fewer (true ∷ xs) (false ∷ ys) (suc p) sub was gone = omega (arith, fewer xs ys p (λ k. sub (suc k)) was gone)
fewer (false ∷ xs) (true ∷ ys) (suc p) sub was gone = absurd (true≢false (sym (sub 0 refl)))
fewer (false ∷ xs) (false ∷ ys) (suc p) sub was gone = fewer xs ys p (λ k. sub (suc k)) was gone

-- after a turn of one that was ready fewer are
pub fewer_ready :
    (old new : List Bool) (place : ℕ) → ((other : ℕ) → is_ready new other ≡ true → is_ready old other ≡ true) → is_ready old place ≡ true
    → is_ready new place ≡ false → ones new < ones old
fewer_ready old new place was ready gone =
    fewer old new place (λ k now. sym (ready_is old k) ∙ was k (ready_is new k ∙ now)) (sym (ready_is old place) ∙ ready) (sym (ready_is new place) ∙ gone)

-- fewer of the first are ready behind a turn of one of them
pub fewer_first :
    (hosts order rest : List ℕ) (place : ℕ) (old new : List Bool) → Takes old order place rest → LeavesAddress hosts place old new → ones new < ones old
fewer_first hosts order rest place old new takes leaves =
    fewer_ready old new place (address_was hosts place old new leaves) (takes_ready old order rest place takes) (leaves_address hosts place old new leaves)

-- ---- what the calls of a round tell

-- a slot that is taken has a turn, and that is told
pub told_taken : (h0 h1 : Option (List RoundAction)) (turn : Turn) (there : Bool) → there ≡ true → Adds h0 h1 (told_if there turn) → Adds h0 h1 (action_of turn ∷ [])
told_taken h0 h1 turn there is told = subst (λ b. Adds h0 h1 (told_if b turn)) is told

-- a turn of one of an address that had none
pub gives_first :
    (h0 h1 h2 : Option (List RoundAction)) (from : RoundStanding) (old new : WaitQueue) (order rest : List ℕ) (place : ℕ)
    → ComesMeanwhile h0 h1 from (round_standing old order false) → Takes old.first order place rest → LeavesAddress old.hosts place old.first new.first
    → LeavesPlace place old.ready new.ready → new.hosts ≡ old.hosts → Adds h1 h2 (Gave place ∷ []) → ComesMeanwhile h0 h2 from (round_standing new rest false)
gives_first h0 h1 h2 from old new order rest place comes takes first ready hosts told =
    comes_more h0 h1 h2 from (round_standing old order false) (round_standing new rest false) (Gave place) comes told
    (record { next = inl (refl, refl, takes); first = first; ready = ready; hosts = hosts })

-- so many wait in this order once one of each address had its turn
abbrev pub Others : (old new : Option (List RoundAction)) → RoundStanding → WaitQueue → (order : List ℕ) → Type 0
Others old new from waiting order =
    (others : Bool) × ComesMeanwhile old new from (round_standing waiting order others) × IsRoundDone (round_standing waiting order others)

-- as the turns of the others begin
pub others_begin :
    (told : Option (List RoundAction)) (waiting : WaitQueue) (order : List ℕ) → first_ready waiting.first order ≡ None
    → Others told told (round_standing waiting order false) waiting order
others_begin told waiting order none = (false, comes_nothing told (round_standing waiting order false), inr none)

-- a turn of one of the others
pub gives_other :
    (h0 h1 h2 : Option (List RoundAction)) (from : RoundStanding) (old new : WaitQueue) (order rest : List ℕ) (place : ℕ)
    → Others h0 h1 from old order → Takes old.ready order place rest → LeavesAddress old.hosts place old.first new.first
    → LeavesPlace place old.ready new.ready → new.hosts ≡ old.hosts → Adds h1 h2 (Gave place ∷ []) → Others h0 h2 from new rest
gives_other h0 h1 h2 from old new order rest place (others, comes, done) takes first ready hosts told = (
  true,
  comes_more h0 h1 h2 from (round_standing old order others) (round_standing new rest true) (Gave place) comes told
      (record { next = inr (done, refl, takes); first = first; ready = ready; hosts = hosts }),
  inl refl,
)

-- where the turns of the others end
pub others_go :
    (h0 h1 : Option (List RoundAction)) (from : RoundStanding) (waiting : WaitQueue) (order : List ℕ) → Others h0 h1 from waiting order → GoesOnTo h0 h1 from order
others_go h0 h1 from waiting order (others, (actions, told, steps), done) = (actions, round_standing waiting order others, told, steps, done, refl)

-- a round: it begins, one of each address has its turn, and then others
pub round_goes :
    (h0 h1 h2 h3 : Option (List RoundAction)) (old first : RoundStanding) (ready : List Bool) (hosts order rest : List ℕ) → IsRoundDone old → old.order ≡ order
    → Adds h0 h1 (Began ready hosts ∷ [])
    → ComesMeanwhile h1 h2 (record { order = order; first = ready; ready = ready; hosts = hosts; others = false }) first
    → GoesOnTo h2 h3 first rest → GoesOnTo h0 h3 old rest
round_goes h0 h1 h2 h3 old first ready hosts order rest done is began (actions, told, steps) goes =
    let from : RoundStanding = record { order = order; first = ready; ready = ready; hosts = hosts; others = false } in
    let begins : ComesMeanwhile h0 h1 old from = comes_more h0 h0 h1 old old from (Began ready hosts) (comes_nothing h0 old) began
    (done, ap (λ o. record { order = o; first = ready; ready = ready; hosts = hosts; others = false }) (sym is)) in
    let so_far : ComesMeanwhile h0 h2 old first =
    (actions ++ begins.0, adds_then h0 h1 h2 begins.0 actions begins.1 told, steps_then old from first begins.0 actions begins.2 steps) in
    comes_then h0 h2 h3 old first rest so_far goes

-- one round more
pub rounds_more :
    (h0 h1 h2 : Option (List RoundAction)) (from : RoundStanding) (order rest : List ℕ) → GoesOnTo h0 h1 from order
    → ((old : RoundStanding) → IsRoundDone old → old.order ≡ order → GoesOnTo h1 h2 old rest) → GoesOnTo h0 h2 from rest
rounds_more h0 h1 h2 from order rest (actions, to, told, steps, done, is) more =
    comes_then h0 h1 h2 from to rest (actions, told, steps) (more to done is)

-- before the first round
pub rounds_begin : (count : ℕ) (told : Option (List RoundAction)) → GoesOnTo told told (start count) (range_with_len 0 count)
rounds_begin count told = ([], start count, adds_nothing told, refl, inl refl, refl)

-- rounds are rounds, in whatever order the places stand behind them
pub goes_rounds : (count : ℕ) (h0 h1 : Option (List RoundAction)) (order : List ℕ) → GoesOnTo h0 h1 (start count) order → AreRounds count h0 h1
goes_rounds count h0 h1 order (actions, to, told, steps, done, is) = (actions, to, told, steps, done)

pub no_rounds : (count : ℕ) (told : Option (List RoundAction)) → AreRounds count told told
no_rounds count told = ([], start count, adds_nothing told, refl, inl refl)

-- ---- who is ready has a slot

-- nobody is ready at first
pub taken_none : {A : Type 0} → (count : ℕ) (slots : List (Option A)) → HaveSlots (replicate count false) slots
taken_none count slots place ready = absurd (true≢false (sym ready ∙ none_of count place))
  where
    none_of : (count place : ℕ) → is_ready (replicate count false) place ≡ false
    none_of count place = elim (cases_lt place count) [
      | inl within ↦ ready_is (replicate count false) place ∙ get_or-replicate count place false false within
      | inr past ↦ ap is_so (slice_get_past (replicate count false) place (omega (arith, past, length-replicate {A = Bool} count false)))
    ]

-- one more place is said to be ready or not
pub taken_set :
    {A : Type 0} → (ready : List Bool) (slots : List (Option A)) (place : ℕ) (is_now : Bool) → HaveSlots ready slots
    → (is_now ≡ true → is_slot_taken slots place ≡ true) → HaveSlots (set ready place is_now) slots
taken_set ready slots place is_now taken there other other_ready = elim (cases_eq other place) [
  | inl same ↦ elim (cases_lt place (length ready)) [
    | inl within ↦ subst (λ p. is_slot_taken slots p ≡ true) (sym same)
        (there (sym (get_or-set_at ready place other is_now false same within) ∙ sym (ready_is (set ready place is_now) other) ∙ other_ready))
    | inr past ↦ taken other (ap (λ xs. is_ready xs other) (sym (set_past ready place is_now past)) ∙ other_ready)
  ]
  | inr apart ↦ taken other (ready_is ready other ∙ sym (get_or-set_other ready place other is_now false apart)
      ∙ sym (ready_is (set ready place is_now) other) ∙ other_ready)
]
