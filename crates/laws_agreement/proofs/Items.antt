-- One item more, and the end of the control connection, in what was begun and reported.
use Rattle.std.proofs.Common.{◌≡◌, inl, inr, ℕ, suc, ◌+◌, ◌<◌, ◌≤◌, List, [], ◌∷◌, ◌++◌, length, Option, Some, None, refl, ap, subst, arith}
use Rattle.ftp_operation.specs.Answer.{Said}
use Rattle.ftp_direct.specs.Direct.{State}
use Rattle.laws_world.specs.Agreement.{Order, Attempt, Item, item_did, attempt_did, before_last, state_after, state_before, Allows, RunHolds, ItemHolds, IsReported, ItemsHold}
use Rattle.laws_world.specs.Outcome.{Outcome, Whole, Cut, Unopened, Lost, Nothing, All, Front}
use Rattle.laws_world.specs.World.{Mark}

-- ---- the state behind items

-- the state behind items and one more is what the last of them makes of the state behind the others
pub state_more : (from : State) (items : List Item) (item : Item) → state_after from (items ++ item ∷ []) ≡ (item_did (state_after from items) item).1
state_more from [] item = refl
state_more from (first ∷ items) item = state_more (item_did from first).1 items item

-- before the last attempt of an item that is one attempt
pub before_more : (from : State) (items : List Item) (item : Item) → item.more ≡ [] → state_before from (items ++ item ∷ []) ≡ state_after from items
before_more from [] item one = ap (λ more. before_last item.moment from item.first more) one
before_more from (first ∷ []) item one = ap (λ more. before_last item.moment (item_did from first).1 item.first more) one
before_more from (first ∷ next ∷ items) item one = before_more (item_did from first).1 (next ∷ items) item one

-- ---- one item more

-- all have their report, and one more was begun
pub one_more : (reports : List Said) (from : State) (index at : ℕ) (done : List Order) (marks : List (List Mark)) (cutoff : Option ℕ) (items : List Item) (order : Order) (more : List Mark) (item : Item)
    → length reports ≡ length done → ItemsHold from index done marks cutoff reports items → at ≡ index + length done
    → ItemHolds (state_after from items) order more cutoff at item
    → ItemsHold from index (done ++ order ∷ []) (marks ++ more ∷ []) cutoff reports (items ++ item ∷ [])
one_more [] from index at [] [] cutoff [] order more item all hold place next =
    subst (λ i. ItemHolds from order more cutoff i item) (let e : at ≡ index = omega (arith, place) in e) next
one_more [] from index at [] [] cutoff (first ∷ items) order more item all hold place next = absurd hold
one_more [] from index at [] (first ∷ marks) cutoff items order more item all hold place next = absurd hold
one_more [] from index at (first ∷ done) marks cutoff items order more item all hold place next = absurd (omega (arith, all))
one_more (report ∷ reports) from index at [] marks cutoff items order more item all hold place next = absurd (omega (arith, all))
one_more (report ∷ reports) from index at (first ∷ done) [] cutoff items order more item all hold place next = absurd hold
one_more (report ∷ reports) from index at (first ∷ done) (mark ∷ marks) cutoff [] order more item all hold place next = absurd hold
one_more (report ∷ reports) from index at (first ∷ done) (mark ∷ marks) cutoff (one ∷ items) order more item all hold place next = (
  hold.0,
  hold.1,
  one_more reports (item_did from one).1 (suc index) at done marks cutoff items order more item (omega (arith, all)) hold.2 (omega (arith, place)) next,
)

-- and has its report
pub one_told : (reports : List Said) (from : State) (index at : ℕ) (done : List Order) (marks : List (List Mark)) (cutoff : Option ℕ) (items : List Item) (order : Order) (more : List Mark) (item : Item) (report : Said)
    → length reports ≡ length done → ItemsHold from index done marks cutoff reports items → at ≡ index + length done
    → ItemHolds (state_after from items) order more cutoff at item → IsReported (state_after from items) order item report
    → ItemsHold from index (done ++ order ∷ []) (marks ++ more ∷ []) cutoff (reports ++ report ∷ []) (items ++ item ∷ [])
one_told [] from index at [] [] cutoff [] order more item report all hold place next told =
    (subst (λ i. ItemHolds from order more cutoff i item) (let e : at ≡ index = omega (arith, place) in e) next, told, tt)
one_told [] from index at [] [] cutoff (first ∷ items) order more item report all hold place next told = absurd hold
one_told [] from index at [] (first ∷ marks) cutoff items order more item report all hold place next told = absurd hold
one_told [] from index at (first ∷ done) marks cutoff items order more item report all hold place next told = absurd (omega (arith, all))
one_told (said ∷ reports) from index at [] marks cutoff items order more item report all hold place next told = absurd (omega (arith, all))
one_told (said ∷ reports) from index at (first ∷ done) [] cutoff items order more item report all hold place next told = absurd hold
one_told (said ∷ reports) from index at (first ∷ done) (mark ∷ marks) cutoff [] order more item report all hold place next told = absurd hold
one_told (said ∷ reports) from index at (first ∷ done) (mark ∷ marks) cutoff (one ∷ items) order more item report all hold place next told = (
  hold.0,
  hold.1,
  one_told reports (item_did from one).1 (suc index) at done marks cutoff items order more item report (omega (arith, all)) hold.2 (omega (arith, place)) next told,
)

-- there are marks for each
pub marks_of_each : (reports : List Said) (from : State) (index : ℕ) (done : List Order) (marks : List (List Mark)) (cutoff : Option ℕ) (items : List Item)
    → length reports ≡ length done → ItemsHold from index done marks cutoff reports items → length marks ≡ length done
marks_of_each [] from index [] [] cutoff items all hold = refl
marks_of_each [] from index [] (mark ∷ marks) cutoff items all hold = absurd hold
marks_of_each [] from index (first ∷ done) marks cutoff items all hold = absurd (omega (arith, all))
marks_of_each (report ∷ reports) from index [] marks cutoff items all hold = absurd (omega (arith, all))
marks_of_each (report ∷ reports) from index (first ∷ done) [] cutoff items all hold = absurd hold
marks_of_each (report ∷ reports) from index (first ∷ done) (mark ∷ marks) cutoff [] all hold = absurd hold
marks_of_each (report ∷ reports) from index (first ∷ done) (mark ∷ marks) cutoff (one ∷ items) all hold =
    ap suc (marks_of_each reports (item_did from one).1 (suc index) done marks cutoff items (omega (arith, all)) hold.2)

-- ---- the control connection ends behind all of them

-- an outcome that is allowed while the control connection lasts is allowed where it ends behind the operation
allows_cut : (outcome : Outcome) (marks : List Mark) (index cutoff : ℕ) → index < cutoff → Allows outcome marks None index → Allows outcome marks (Some cutoff) index
allows_cut Whole marks index cutoff early allows = early
allows_cut (Cut wire) marks index cutoff early allows = (early, allows.1)
allows_cut Unopened marks index cutoff early allows = (early, allows.1)
allows_cut (Lost Nothing) marks index cutoff early (inl last) = absurd last
allows_cut (Lost Nothing) marks index cutoff early (inr behind) = absurd behind
allows_cut (Lost All) marks index cutoff early allows = absurd allows
allows_cut (Lost (Front wire)) marks index cutoff early allows = absurd allows.0

-- attempts that hold while the control connection lasts hold where it ends behind them
run_cut : (moment : ℕ) (state : State) (index cutoff : ℕ) (attempts : List Attempt) → index < cutoff → RunHolds moment state None index attempts → RunHolds moment state (Some cutoff) index attempts
run_cut moment state index cutoff [] early hold = tt
run_cut moment state index cutoff (attempt ∷ attempts) early hold = (
  record { can_be = hold.0.can_be; allowed = allows_cut attempt.outcome attempt.marks index cutoff early hold.0.allowed; few = hold.0.few },
  run_cut moment (attempt_did moment state attempt).1 index cutoff attempts early hold.1,
)

-- an item that holds while the control connection lasts holds where it ends behind the item
item_cut : (state : State) (order : Order) (marks : List Mark) (index cutoff : ℕ) (item : Item) → index < cutoff → ItemHolds state order marks None index item
    → ItemHolds state order marks (Some cutoff) index item
item_cut state order marks index cutoff item early hold =
    record { is_of = hold.is_of; holds = run_cut item.moment state index cutoff (item.first ∷ item.more) early hold.holds; marked = hold.marked }

-- items that all have their report and hold while the control connection lasts hold where it ends behind all of them
pub all_cut : (reports : List Said) (from : State) (index cutoff : ℕ) (done : List Order) (marks : List (List Mark)) (items : List Item)
    → length reports ≡ length done → index + length done ≤ cutoff → ItemsHold from index done marks None reports items → ItemsHold from index done marks (Some cutoff) reports items
all_cut [] from index cutoff [] [] [] all early hold = tt
all_cut [] from index cutoff [] [] (first ∷ items) all early hold = absurd hold
all_cut [] from index cutoff [] (mark ∷ marks) items all early hold = absurd hold
all_cut [] from index cutoff (first ∷ done) marks items all early hold = absurd (omega (arith, all))
all_cut (report ∷ reports) from index cutoff [] marks items all early hold = absurd (omega (arith, all))
all_cut (report ∷ reports) from index cutoff (first ∷ done) [] items all early hold = absurd hold
all_cut (report ∷ reports) from index cutoff (first ∷ done) (mark ∷ marks) [] all early hold = absurd hold
all_cut (report ∷ reports) from index cutoff (first ∷ done) (mark ∷ marks) (one ∷ items) all early hold = (
  item_cut from first mark index cutoff one (omega (arith, early)) hold.0,
  hold.1,
  all_cut reports (item_did from one).1 (suc index) cutoff done marks items (omega (arith, all)) (omega (arith, early)) hold.2,
)
