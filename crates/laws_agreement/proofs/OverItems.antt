-- The operations of an upload over breaks, each with its own item, are together one item of that upload.
use Rattle.std.proofs.Common.{◌≡◌, ◌⊎◌, inl, inr, ℕ, suc, ◌+◌, ◌<◌, ◌≤◌, List, [], ◌∷◌, ◌++◌, length, Option, Some, None, refl, sym, ap, subst, ◌∙◌, arith, append-nil}
use Rattle.std.specs.Prelude.{flat_map}
use Rattle.ftp_operation.specs.Answer.{Said}
use Rattle.ftp_operation.specs.declared.op.Op.{Op}
use Rattle.ftp_direct.specs.Direct.{State}
use Rattle.ftp_client_model.specs.Tries.{OverBreaks, Run, first_try, next_in, run_at, run_of}
use Rattle.laws_world.specs.Agreement.{Order, Single, Tries, Attempt, Item, attempt_did, run_from, item_did, before_last, state_after, state_before, GoesOn, IsOver, Allows, RunHolds, ItemHolds, ItemsHold}
use Rattle.laws_world.specs.Outcome.{Outcome, Whole, Cut, Unopened, Lost, Nothing, All, Front}
use Rattle.laws_world.specs.World.{Mark}
use Rattle.laws_agreement.specs.Tried.{Tried, tried_orders, tried_marks, tried_said, all_marks, IsChain, told_of, IsLastOfRun}

-- ---- another count of what was begun

-- an operation stands to one end of the control connection as another does to another
abbrev pub Matches : Option ℕ → Option ℕ → ℕ → ℕ → Type 0
Matches None None i j = Unit {0}
Matches (Some c) (Some d) i j = ((suc i < c) × (j < d)) ⊎ ((suc i ≡ c) × (suc j ≡ d))
Matches None (Some d) i j = ⊥
Matches (Some c) None i j = ⊥

-- so it is allowed the same
allows_moved : (outcome : Outcome) (marks : List Mark) (cutoff other : Option ℕ) (i j : ℕ) → Matches cutoff other i j → Allows outcome marks cutoff i → Allows outcome marks other j
allows_moved Whole marks None None i j m a = tt
allows_moved (Cut wire) marks None None i j m a = a
allows_moved Unopened marks None None i j m a = a
allows_moved (Lost Nothing) marks None None i j m (inl a) = absurd a
allows_moved (Lost Nothing) marks None None i j m (inr a) = absurd a
allows_moved (Lost All) marks None None i j m a = absurd a
allows_moved (Lost (Front wire)) marks None None i j m a = absurd a.0
allows_moved outcome marks None (Some d) i j m a = absurd m
allows_moved outcome marks (Some c) None i j m a = absurd m
allows_moved Whole marks (Some c) (Some d) i j (inl m) a = m.1
allows_moved Whole marks (Some c) (Some d) i j (inr m) a = let e : suc j ≡ d = m.1 in omega (arith, e)
allows_moved (Cut wire) marks (Some c) (Some d) i j (inl m) a = (m.1, a.1)
allows_moved (Cut wire) marks (Some c) (Some d) i j (inr m) a = ((let e : suc j ≡ d = m.1 in omega (arith, e)), a.1)
allows_moved Unopened marks (Some c) (Some d) i j (inl m) a = (m.1, a.1)
allows_moved Unopened marks (Some c) (Some d) i j (inr m) a = ((let e : suc j ≡ d = m.1 in omega (arith, e)), a.1)
allows_moved (Lost Nothing) marks (Some c) (Some d) i j (inl m) (inl a) = absurd (let e : suc i ≡ c = a in let f : suc i < c = m.0 in omega (arith, e, f))
allows_moved (Lost Nothing) marks (Some c) (Some d) i j (inl m) (inr a) = absurd (let e : c ≤ i = a in let f : suc i < c = m.0 in omega (arith, e, f))
allows_moved (Lost Nothing) marks (Some c) (Some d) i j (inr m) a = inl m.1
allows_moved (Lost All) marks (Some c) (Some d) i j (inl m) a = absurd (let e : suc i ≡ c = a in let f : suc i < c = m.0 in omega (arith, e, f))
allows_moved (Lost All) marks (Some c) (Some d) i j (inr m) a = m.1
allows_moved (Lost (Front wire)) marks (Some c) (Some d) i j (inl m) a = absurd (let e : suc i ≡ c = a.0 in let f : suc i < c = m.0 in omega (arith, e, f))
allows_moved (Lost (Front wire)) marks (Some c) (Some d) i j (inr m) a = (m.1, a.1)

-- and so are attempts
run_moved : (moment : ℕ) (state : State) (cutoff other : Option ℕ) (i j : ℕ) (attempts : List Attempt) → Matches cutoff other i j
    → RunHolds moment state cutoff i attempts → RunHolds moment state other j attempts
run_moved moment state cutoff other i j [] m hold = tt
run_moved moment state cutoff other i j (attempt ∷ attempts) m hold = (
  record { can_be = hold.0.can_be; allowed = allows_moved attempt.outcome attempt.marks cutoff other i j m hold.0.allowed; few = hold.0.few },
  run_moved moment (attempt_did moment state attempt).1 cutoff other i j attempts m hold.1,
)

-- and an item
item_moved : (state : State) (order : Order) (marks : List Mark) (cutoff other : Option ℕ) (i j : ℕ) (item : Item) → Matches cutoff other i j
    → ItemHolds state order marks cutoff i item → ItemHolds state order marks other j item
item_moved state order marks cutoff other i j item m hold =
    record { is_of = hold.is_of; holds = run_moved item.moment state cutoff other i j (item.first ∷ item.more) m hold.holds; marked = hold.marked }

-- ---- an item of one attempt

-- the item of one attempt
abbrev one_item : ℕ → Attempt → Item
one_item moment attempt = record { moment = moment; first = attempt; more = [] }

-- an item of a single operation is one
single_is : (moment : ℕ) (item : Item) → item.moment ≡ moment → item.more ≡ [] → item ≡ one_item moment item.first
single_is moment item at one = λ i. record { moment = at i; first = item.first; more = one i }

-- behind the first of some items
before_cons : (state : State) (item : Item) (items : List Item) → (items ≡ [] → ⊥) → state_before state (item ∷ items) ≡ state_before (item_did state item).1 items
before_cons state item [] some = absurd (some refl)
before_cons state item (next ∷ items) some = refl

module _ (moment : ℕ) (last : Run) (final : Op (List ℕ)) (own : List Mark) (said : Option Said) (cutoff other : Option ℕ) (j : ℕ) where
  -- the attempts of a run
  record Group (state : State) (run : Run) (op : Op (List ℕ)) (past : List Tried) (items : List Item) : Type 0 where
    first : Attempt
    more : List Attempt
    first_op : first.op ≡ op
    goes : GoesOn moment run first.op (attempt_did moment state first) more
    holds : RunHolds moment state other j (first ∷ more)
    marked : flat_map (λ (attempt : Attempt). attempt.marks) (first ∷ more) ≡ all_marks past own
    told : (answer : Said) → said ≡ Some answer → IsLastOfRun last final said → IsOver moment run first.op (attempt_did moment state first) more × ((run_from moment (attempt_did moment state first) more).0 ≡ answer)
    after : (run_from moment (attempt_did moment state first) more).1 ≡ state_after state items
    before : before_last moment state first more ≡ state_before state items
    some : items ≡ [] → ⊥

  -- the last attempt alone
  alone : (i : ℕ) (state : State) (run : Run) (op : Op (List ℕ)) (item : Item) → Matches cutoff other i j → (run ≡ last) × (op ≡ final)
      → ItemHolds state (Single final moment) own cutoff i item → ((answer : Said) → said ≡ Some answer → (item_did state item).0 ≡ answer) → Group state run op [] (item ∷ [])
  alone i state run op item m chain hold told =
      let is : item ≡ one_item moment item.first = single_is moment item hold.is_of.0 hold.is_of.2 in
      let holds : ItemHolds state (Single final moment) own cutoff i (one_item moment item.first) = subst (λ x. ItemHolds state (Single final moment) own cutoff i x) is hold in
      record {
        first = item.first;
        more = [];
        first_op = hold.is_of.1 ∙ sym chain.1;
        goes = tt;
        holds = run_moved moment state cutoff other i j (item.first ∷ []) m holds.holds;
        marked = holds.marked;
        told = λ answer some none. (
          (let told_is : (attempt_did moment state item.first).0 ≡ answer = ap (λ x. (item_did state x).0) (sym is) ∙ told answer some in
              let over : next_in last final answer ≡ None = subst (λ s. IsLastOfRun last final s) some none in
              (λ k. next_in (chain.0 k) ((hold.is_of.1 ∙ refl) k) (told_is k)) ∙ over),
          ap (λ x. (item_did state x).0) (sym is) ∙ told answer some,
        );
        after = ap (λ x. (item_did state x).1) (sym is);
        before = ap (λ x. before_last x.moment state x.first x.more) (sym is);
        some = λ e. (cc);
      }

  -- an attempt before others
  step : (i : ℕ) (state : State) (run : Run) (op : Op (List ℕ)) (one : Tried) (past : List Tried) (item : Item) (items : List Item) (next : Op (List ℕ)) → Matches cutoff other i j
      → one.op ≡ op → next_in run op one.said ≡ Some next
      → ItemHolds state (Single one.op moment) one.own cutoff i item → (item_did state item).0 ≡ one.said
      → Group (item_did state item).1 (run_at next run) next past items → Group state run op (one ∷ past) (item ∷ items)
  step i state run op one past item items next m same follows hold told g =
      let is : item ≡ one_item moment item.first = single_is moment item hold.is_of.0 hold.is_of.2 in
      let at : State = (item_did state item).1 in
      let at_is : at ≡ (attempt_did moment state item.first).1 = ap (λ x. (item_did state x).1) is in
      let told_is : (attempt_did moment state item.first).0 ≡ one.said = ap (λ x. (item_did state x).0) (sym is) ∙ told in
      let holds : ItemHolds state (Single one.op moment) one.own cutoff i (one_item moment item.first) = subst (λ x. ItemHolds state (Single one.op moment) one.own cutoff i x) is hold in
      let own_is : item.first.marks ≡ one.own = sym (append-nil item.first.marks) ∙ holds.marked in
      let op_is : item.first.op ≡ op = hold.is_of.1 ∙ same in
      let goes : GoesOn moment (run_at g.first.op run) g.first.op (attempt_did moment (attempt_did moment state item.first).1 g.first) g.more =
      subst (λ s. GoesOn moment (run_at g.first.op run) g.first.op (attempt_did moment s g.first) g.more) at_is
      (subst (λ o. GoesOn moment (run_at o run) g.first.op (attempt_did moment at g.first) g.more) (sym g.first_op) g.goes) in
      record {
        first = item.first;
        more = g.first ∷ g.more;
        first_op = op_is;
        goes = ((λ k. next_in run (op_is k) (told_is k)) ∙ follows ∙ ap Some (sym g.first_op), goes);
        holds = (
          (run_moved moment state cutoff other i j (item.first ∷ []) m holds.holds).0,
          subst (λ s. RunHolds moment s other j (g.first ∷ g.more)) at_is g.holds,
        );
        marked = (λ k. own_is k ++ g.marked k);
        told = λ answer some none.
            let t = g.told answer some none in (
              subst (λ s. IsOver moment (run_at g.first.op run) g.first.op (attempt_did moment s g.first) g.more) at_is
                  (subst (λ o. IsOver moment (run_at o run) g.first.op (attempt_did moment at g.first) g.more) (sym g.first_op) t.0),
              ap (λ s. (run_from moment (attempt_did moment s g.first) g.more).0) (sym at_is) ∙ t.1,
            );
        after = ap (λ s. (run_from moment (attempt_did moment s g.first) g.more).1) (sym at_is) ∙ g.after;
        before = ap (λ s. before_last moment s g.first g.more) (sym at_is) ∙ g.before ∙ sym (before_cons state item items g.some);
        some = λ e. (cc);
      }

  -- the items of a run are one group of attempts
  group : (past : List Tried) (i : ℕ) (state : State) (run : Run) (op : Op (List ℕ)) (items : List Item) → ((k : ℕ) → k ≤ length past → Matches cutoff other (i + k) j)
      → IsChain run op past last final → ItemsHold state i (tried_orders moment past ++ Single final moment ∷ []) (tried_marks past ++ own ∷ []) cutoff (tried_said past ++ told_of said) items
      → Group state run op past items
  group [] i state run op items m chain hold = by_said said items refl hold
    where
      here : Matches cutoff other i j
      here = subst (λ n. Matches cutoff other n j) (let e : i + 0 ≡ i = omega arith in e) (m 0 (omega arith))

      by_said : (s : Option Said) (items : List Item) → said ≡ s → ItemsHold state i (Single final moment ∷ []) (own ∷ []) cutoff (told_of s) items → Group state run op [] items
      by_said None [] is hold = absurd hold
      by_said None (item ∷ []) is hold = alone i state run op item here chain hold (λ answer some. let e : None ≡ Some answer = sym is ∙ some in cc)
      by_said None (item ∷ next ∷ items) is hold = absurd hold
      by_said (Some answer) [] is hold = absurd hold
      by_said (Some answer) (item ∷ []) is hold = alone i state run op item here chain hold.0 (λ answered some. hold.1.1 ∙ (let e : Some answer ≡ Some answered = sym is ∙ some in cc))
      by_said (Some answer) (item ∷ next ∷ items) is hold = absurd hold.2
  group (one ∷ past) i state run op [] m chain hold = absurd hold
  group (one ∷ past) i state run op (item ∷ items) m chain hold =
      step i state run op one past item items chain.1 (subst (λ n. Matches cutoff other n j) (let e : i + 0 ≡ i = omega arith in e) (m 0 (omega arith))) chain.0 chain.2 hold.0 hold.1.1
      (group past (suc i) (item_did state item).1 (run_at chain.1 run) chain.1 items
      (λ k few. subst (λ n. Matches cutoff other n j) (let e : i + suc k ≡ suc i + k = omega arith in e) (m (suc k) (let le : suc k ≤ suc (length past) = omega (arith, few) in le)))
      chain.3 hold.2)

-- ---- behind others

-- the items with those of a run folded into one
pub record Folded (state : State) (i : ℕ) (before : List Order) (order : Order) (marks : List (List Mark)) (own : List Mark) (cutoff : Option ℕ) (reports : List Said) (items : List Item) : Type 0 where
  pub folded : List Item
  pub hold : ItemsHold state i (before ++ order ∷ []) (marks ++ own ∷ []) cutoff reports folded
  pub after : state_after state folded ≡ state_after state items
  pub before_is : state_before state folded ≡ state_before state items
  pub some : items ≡ [] → ⊥
  pub folded_some : folded ≡ [] → ⊥

module _ (upload : OverBreaks) (moment : ℕ) (last : Run) (final : Op (List ℕ)) (own : List Mark) (past : List Tried) (said : Option Said) (cutoff other : Option ℕ)
    (chain : IsChain (run_of upload) (first_try upload) past last final) (ends : IsLastOfRun last final said) where
  -- the items of operations that were begun one after the other, the last of them those of a run
  pub fold : (reports : List Said) (state : State) (i : ℕ) (before : List Order) (marks : List (List Mark)) (items : List Item)
      → length reports ≡ length before → length marks ≡ length before
      → ((k : ℕ) → k < length before → Matches cutoff other (i + k) (i + k)) → ((k : ℕ) → k ≤ length past → Matches cutoff other (i + length before + k) (i + length before))
      → ItemsHold state i (before ++ (tried_orders moment past ++ Single final moment ∷ [])) (marks ++ (tried_marks past ++ own ∷ [])) cutoff (reports ++ (tried_said past ++ told_of said)) items
      → Folded state i before (Tries upload moment) marks (all_marks past own) other (reports ++ told_of said) items
  fold [] state i [] [] items all each early late hold = by_said said items (λ k few. subst (λ n. Matches cutoff other n i) (let e : i + 0 + k ≡ i + k = omega arith in e) (subst (λ n. Matches cutoff other (i + 0 + k) n) (let e : i + 0 ≡ i = omega arith in e) (late k few))) ends refl hold
    where
      by_said : (s : Option Said) (items : List Item) → ((k : ℕ) → k ≤ length past → Matches cutoff other (i + k) i) → IsLastOfRun last final s → said ≡ s
          → ItemsHold state i (tried_orders moment past ++ Single final moment ∷ []) (tried_marks past ++ own ∷ []) cutoff (tried_said past ++ told_of said) items
          → Folded state i [] (Tries upload moment) [] (all_marks past own) other (told_of s) items
      by_said None items m none is hold =
          let g = group moment last final own said cutoff other i past i state (run_of upload) (first_try upload) items m chain hold in
          let item : Item = record { moment = moment; first = g.first; more = g.more } in
          record {
            folded = item ∷ [];
            hold = record { is_of = (refl, g.first_op, g.goes); holds = g.holds; marked = g.marked };
            after = g.after;
            before_is = g.before;
            some = g.some;
            folded_some = λ e. (cc);
          }
      by_said (Some answer) items m none is hold =
          let g = group moment last final own said cutoff other i past i state (run_of upload) (first_try upload) items m chain hold in
          let t = g.told answer is ends in
          let item : Item = record { moment = moment; first = g.first; more = g.more } in
          record {
            folded = item ∷ [];
            hold = (record { is_of = (refl, g.first_op, g.goes); holds = g.holds; marked = g.marked }, (t.0, t.1), tt);
            after = g.after;
            before_is = g.before;
            some = g.some;
            folded_some = λ e. (cc);
          }
  fold [] state i [] (mark ∷ marks) items all each early late hold = absurd (omega (arith, each))
  fold [] state i (order ∷ before) marks items all each early late hold = absurd (omega (arith, all))
  fold (report ∷ reports) state i [] marks items all each early late hold = absurd (omega (arith, all))
  fold (report ∷ reports) state i (order ∷ before) [] items all each early late hold = absurd (omega (arith, each))
  fold (report ∷ reports) state i (order ∷ before) (mark ∷ marks) [] all each early late hold = absurd hold
  fold (report ∷ reports) state i (order ∷ before) (mark ∷ marks) (item ∷ items) all each early late hold =
      let f = fold reports (item_did state item).1 (suc i) before marks items (omega (arith, all)) (omega (arith, each))
      (λ k few. subst (λ n. Matches cutoff other n n) (let e : i + suc k ≡ suc i + k = omega arith in e) (early (suc k) (let le : suc k < suc (length before) = omega (arith, few) in le)))
      (λ k few. subst (λ n. Matches cutoff other (n + k) n) (let e : i + suc (length before) ≡ suc i + length before = omega arith in e) (late k few))
      hold.2 in
      record {
        folded = item ∷ f.folded;
        hold = (
          item_moved state order mark cutoff other i i item (subst (λ n. Matches cutoff other n n) (let e : i + 0 ≡ i = omega arith in e) (early 0 (omega arith))) hold.0,
          hold.1,
          f.hold,
        );
        after = f.after;
        before_is = before_cons state item f.folded f.folded_some ∙ f.before_is ∙ sym (before_cons state item items f.some);
        some = λ e. (cc);
        folded_some = λ e. (cc);
      }
