-- Without marks and without an end of the control connection agreement is the direct run.
use Rattle.std.proofs.Common.{◌≡◌, ◌⊎◌, ℕ, suc, ◌<◌, List, [], ◌∷◌, length, None, refl, sym, ap, subst, ◌∙◌, append-nil, arith, inl, inr}
use Rattle.std.specs.List.{Contains, flat_map}
use Rattle.ftp_direct.specs.Direct.{State, answer, answers}
use Rattle.ftp_operation.specs.Answer.{Said}
use Rattle.ftp_operation.specs.declared.op.Op.{Op}
use Rattle.ftp_tree.specs.Tree.{Table}
use Rattle.laws_world.specs.Agreement.{Order, Single, Tries, Attempt, Item, item_did, state_after, state_before, operations, AreSingle, Allows, ItemHolds, ItemsHold}
use Rattle.laws_world.specs.Claims.{AreUnmarked, PeekIsDirect, UnmarkedIsDirect}
use Rattle.laws_world.specs.Outcome.{Outcome, Whole, Cut, Unopened, Lost, Nothing, All, Front}
use Rattle.laws_world.specs.World.{Mark}

-- nothing is among no marks
none_among : (mark : Mark) (marks : List Mark) → marks ≡ [] → Contains marks mark → ⊥
none_among mark [] empty has = absurd (omega (arith, has.1))
none_among mark (other ∷ marks) empty has = absurd (let long : suc (length marks) ≡ 0 = ap length empty in omega (arith, long))

-- without marks and cutoff each operation is whole
whole_outcome : (outcome : Outcome) (marks : List Mark) (index : ℕ) → marks ≡ [] → Allows outcome marks None index → outcome ≡ Whole
whole_outcome Whole marks index empty allows = refl
whole_outcome (Cut wire) marks index empty allows = absurd (none_among _ marks empty allows.1)
whole_outcome Unopened marks index empty (_, inl refused) = absurd (none_among _ marks empty refused)
whole_outcome Unopened marks index empty (_, inr broken) = absurd (none_among _ marks empty broken)
whole_outcome (Lost Nothing) marks index empty (inl last) = absurd last
whole_outcome (Lost Nothing) marks index empty (inr behind) = absurd behind
whole_outcome (Lost All) marks index empty allows = absurd allows
whole_outcome (Lost (Front wire)) marks index empty allows = absurd allows.0

-- the marks of the one attempt are those of its item
one_mark : (attempt : Attempt) (more : List Attempt) (marks : List Mark) → more ≡ [] → flat_map (λ attempt. attempt.marks) (attempt ∷ more) ≡ marks → marks ≡ []
    → attempt.marks ≡ []
one_mark attempt [] marks none is empty = sym (append-nil attempt.marks) ∙ (is ∙ empty)
one_mark attempt (next ∷ more) marks none is empty = absurd (cc)

-- the item of an operation without marks did what the direct run does
whole_item : (state : State) (op : Op (List ℕ)) (moment : ℕ) (marks : List Mark) (index : ℕ) (item : Item) → marks ≡ []
    → ItemHolds state (Single op moment) marks None index item → item_did state item ≡ answer state op moment
whole_item state op moment marks index item empty hold =
    let none = one_mark item.first item.more marks hold.is_of.2 hold.marked empty in
    let whole : item.first.outcome ≡ Whole = whole_outcome item.first.outcome item.first.marks index none hold.holds.0.allowed in
    rw (hold.is_of.2, whole, hold.is_of.0, hold.is_of.1) refl

-- items without marks report and leave what the direct run does
pub record Runs (from : State) (begun : List Order) (reports : List Said) (items : List Item) : Type 0 where
  pub reports_are : reports ≡ (answers from (operations begun)).0
  pub state : state_after from items ≡ (answers from (operations begun)).1

unmarked_runs : (from : State) (index : ℕ) (begun : List Order) (marks : List (List Mark)) (reports : List Said) (items : List Item)
    → AreSingle begun → AreUnmarked marks → length reports ≡ length begun → ItemsHold from index begun marks None reports items → Runs from begun reports items
unfolding answers
unmarked_runs from index [] [] [] [] single unmarked all hold = record { reports_are = refl; state = refl }
unmarked_runs from index (Single op moment ∷ orders) (marks ∷ more) (report ∷ reports) (item ∷ items) single unmarked all hold =
    let did : item_did from item ≡ answer from op moment = whole_item from op moment marks index item unmarked.0 hold.0 in
    let rest : ItemsHold (answer from op moment).1 (suc index) orders more None reports items =
    subst (λ done. ItemsHold done.1 (suc index) orders more None reports items) did hold.2 in
    let runs = unmarked_runs (answer from op moment).1 (suc index) orders more reports items single unmarked.1 (omega (arith, all)) rest in
    let told : report ≡ (answer from op moment).0 = sym hold.1.1 ∙ ap (λ done. done.0) did in
    record {
      reports_are = rw (told, runs.reports_are) refl;
      state = rw (did, runs.state) refl;
    }
unmarked_runs from index [] [] [] (item ∷ items) single unmarked all hold = absurd hold
unmarked_runs from index [] (marks ∷ more) [] items single unmarked all hold = absurd hold
unmarked_runs from index [] marks (report ∷ reports) items single unmarked all hold = absurd hold
unmarked_runs from index (Single op moment ∷ orders) [] (report ∷ reports) items single unmarked all hold = absurd hold
unmarked_runs from index (Single op moment ∷ orders) marks [] items single unmarked all hold = absurd (omega (arith, all))
unmarked_runs from index (Single op moment ∷ orders) (marks ∷ more) (report ∷ reports) [] single unmarked all hold = absurd hold
unmarked_runs from index (Tries upload moment ∷ orders) marks reports items single unmarked all hold = absurd single

-- where all have their report, the map is that after them all
last_table : (from : State) (items : List Item) (begun : List Order) (reports : List Said) (table : Table) → length reports ≡ length begun
    → (table ≡ (state_after from items).table) ⊎ ((length reports < length begun) × (table ≡ (state_before from items).table))
    → table ≡ (state_after from items).table
last_table from items begun reports table all (inl is) = is
last_table from items begun reports table all (inr (fewer, is)) = absurd (omega (arith, all, fewer))

pub unmarked_is_direct : UnmarkedIsDirect
unmarked_is_direct from begun marks reports table single unmarked told agrees =
    let runs = unmarked_runs from 0 begun marks reports agrees.items single unmarked told agrees.hold in (
      runs.reports_are,
      last_table from agrees.items begun reports table told agrees.map_is ∙ ap (λ state. state.table) runs.state,
    )

-- ---- a Peek

pub peek_is_direct : PeekIsDirect
peek_is_direct state text count how moment index cutoff Whole marks hold = inr (inr (inl refl))
peek_is_direct state text count how moment index cutoff (Cut wire) marks hold =
    inr (inr (inr (record { wire = wire; own = hold.can_be.1.0; marked = hold.allowed.1; few = hold.can_be.1.1 })))
peek_is_direct state text count how moment index cutoff Unopened marks hold = inl refl
peek_is_direct state text count how moment index cutoff (Lost part) marks hold = inr (inl refl)
