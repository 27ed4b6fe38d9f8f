-- What follows is agreement, and where nothing is in flight nothing is left open.
use Rattle.std.proofs.Common.{◌≡◌, ◌⊎◌, inl, inr, ℕ, ◌+◌, ◌<◌, ◌≤◌, List, [], ◌∷◌, ◌++◌, length, Option, Some, None, refl, sym, ap, subst, ◌∙◌, append-nil, arith}
use Rattle.ftp_direct.specs.Direct.{State, answer}
use Rattle.ftp_operation.specs.Answer.{Said}
use Rattle.ftp_tree.specs.Tree.{Table}
use Rattle.ftp_operation.specs.declared.op.Op.{Op}
use Rattle.ftp_server_model.specs.Machine.{Reading, IsReading}
use Rattle.laws_world.specs.Agreement.{Order, Single, Item, state_after, ItemHolds, Agrees, WorldAgrees}
use Rattle.laws_world.specs.Outcome.{Whole}
use Rattle.laws_world.specs.World.{World, Mark}
use Rattle.laws_dialogues.specs.Dialogue.{Ends}
use Rattle.laws_dialogues.specs.Fetches.{Ask}
use Rattle.laws_dialogues.specs.Login.{AtFree, AtOperation}
use Rattle.laws_dialogues.specs.Stage.{rest}
use Rattle.laws_agreement.specs.Follows.{Told, IsFree, IsUnder, Phase, Follows}
use Rattle.laws_agreement.specs.Cut.{PlacedAt}
use Rattle.laws_agreement.specs.PeekStages.{AtHalt}
use Rattle.laws_agreement.specs.Rising.{FaredTo}
use Rattle.laws_agreement.specs.Runs.{IsAsked, IsFetchingOn, IsHaltingOn, IsTrailing, Runs}
use Rattle.laws_agreement.specs.Stages.{AtFetch}
use Rattle.laws_agreement.proofs.FetchParting.{parts}
use Rattle.laws_agreement.proofs.FetchTold.{fared_holds, fared_item, fared_leaves, few_links, closed_is, closed_at, marks_at, reported}
use Rattle.laws_agreement.proofs.Items.{state_more, before_more, one_more}
use Rattle.laws_agreement.proofs.PeekParting.{halt_parts}
use Rattle.laws_agreement.proofs.Phases.{whole_item, whole_holds, length-more}
use Rattle.laws_agreement.proofs.Still.{IsSeen, seen, IsMoving, free_set, operation_on}

-- all that was begun has its report
told_agrees : (from : State) (begun : List Order) (marks : List (List Mark)) (cutoff : Option ℕ) (reports : List Said) (now : State) (table : Table)
    → Told from begun marks cutoff reports now → table ≡ now.table → Agrees from begun marks cutoff reports table
told_agrees from begun marks cutoff reports now table t is = record { items = t.items; hold = t.hold; map_is = inl (is ∙ ap (λ s. s.table) t.now_is) }

-- a table that is the same either way is the same
either_same : {t other : Table} → (t ≡ other) ⊎ (t ≡ other) → t ≡ other
either_same (inl is) = is
either_same (inr is) = is

-- with no operation under way the map of the server is that of the state now
free_table : (from : State) (begun : List Order) (w : World) → (f : IsFree from begun w) → w.far.session.table ≡ f.now.table
free_table from begun w f =
    ap (λ s. s.table) (seen (AtFree f.now) w f.stands).session
    ∙ either_same (free_set f.now f.stands.way f.stands.base.near f.stands.base.far f.stands.here).table

-- under an operation the map of the server is that of the state before it or behind it
under_table : (read : Reading) (from : State) (begun : List Order) (w : World) → (u : IsUnder read from begun w)
    → (w.far.session.table ≡ u.now.table) ⊎ (w.far.session.table ≡ (answer u.now u.op u.moment).1.table)
under_table read from begun w u = by_place (operation_on read u.now u.op (answer u.now u.op u.moment) u.stands.way u.stands.base.near u.stands.base.far u.stands.here)
  where
    like : IsSeen u.stands.base w
    like = seen (λ way n f. AtOperation read u.now u.op (answer u.now u.op u.moment) way n f) w u.stands

    by_place : IsMoving u.now.table (answer u.now u.op u.moment).1.table u.stands.way u.stands.base.near u.stands.base.far
        ⊎ ((u.stands.way ≡ rest) × Ends (answer u.now u.op u.moment) u.stands.base.near u.stands.base.far)
        → (w.far.session.table ≡ u.now.table) ⊎ (w.far.session.table ≡ (answer u.now u.op u.moment).1.table)
    by_place (inl moving) = elim moving.set.table [
      | inl before ↦ inl (ap (λ s. s.table) like.session ∙ before)
      | inr after ↦ inr (ap (λ s. s.table) like.session ∙ after)
    ]
    by_place (inr ends) = inr (ap (λ s. s.table) like.session ∙ ends.1.stands.sees.table)

-- a world under an operation agrees
under_agrees : (read : Reading) (from : State) (begun : List Order) (w : World) → (u : IsUnder read from begun w) → Agrees from begun w.marks None w.reports w.far.session.table
under_agrees read from begun w u =
    subst (λ b. Agrees from b w.marks None w.reports w.far.session.table) (sym u.begun_is)
    (subst (λ marks. Agrees from (u.done ++ Single u.op u.moment ∷ []) marks None w.reports w.far.session.table) (sym u.marks_are) all)
  where
    item : Item
    item = whole_item u.op u.moment

    all : Agrees from (u.done ++ Single u.op u.moment ∷ []) (u.marks ++ [] ∷ []) None w.reports w.far.session.table
    all = record {
      items = u.told.items ++ whole_item u.op u.moment ∷ [];
      hold = one_more w.reports from 0 (length u.done) u.done u.marks None u.told.items (Single u.op u.moment) [] (whole_item u.op u.moment) u.told.all u.told.hold
          (let e : length u.done ≡ 0 + length u.done = omega arith in e) (whole_holds (state_after from u.told.items) u.op u.moment (length u.done));
      map_is = elim (under_table read from begun w u) [
        | inl before ↦ inr (
          (let fewer : length w.reports < length (u.done ++ Single u.op u.moment ∷ []) = omega (arith, u.told.all, length-more u.done (Single u.op u.moment)) in fewer),
          before ∙ ap (λ s. s.table) (u.told.now_is ∙ sym (before_more from u.told.items (whole_item u.op u.moment) refl)),
        )
        | inr after ↦ inl (after ∙ ap (λ s. s.table) (sym (state_more from u.told.items (whole_item u.op u.moment) ∙ ap (λ s. (answer s u.op u.moment).1) (sym u.told.now_is))))
      ];
    }

-- a world that follows what was begun agrees with it
pub follows_agrees : (read : Reading) (from : State) (begun : List Order) (w : World) → Follows read from begun w → WorldAgrees from begun w
follows_agrees read from begun w h = by_phase h.phase
  where
    by_phase : Phase read from begun w → WorldAgrees from begun w
    by_phase (inl (l, inl f)) =
        subst (λ cutoff. Agrees from begun w.marks cutoff w.reports w.far.session.table) (sym l.cutoff)
        (told_agrees from begun w.marks None w.reports f.now w.far.session.table f.told (free_table from begun w f))
    by_phase (inl (l, inr u)) =
        subst (λ cutoff. Agrees from begun w.marks cutoff w.reports w.far.session.table) (sym l.cutoff) (under_agrees read from begun w u)
    by_phase (inr l) =
        subst (λ cutoff. Agrees from begun w.marks cutoff w.reports w.far.session.table) (sym l.cut_is)
        (told_agrees from begun w.marks (Some l.cutoff) w.reports l.now w.far.session.table l.told l.table)

-- ---- a download, a listing or an upload

-- an operation that is whole, whatever its marks
marked_item : Op (List ℕ) → ℕ → List Mark → Item
marked_item op moment own = record { moment = moment; first = record { op = op; outcome = Whole; marks = own }; more = [] }

-- a world with what is asked for under way agrees, however that stands, where the map is that before it
asked_before : (Stood : State → Ask → List Mark → World → Type 0) (from : State) (begun : List Order) (w : World) → (f : IsAsked Stood from begun w) → w.far.session.table ≡ f.now.table
    → length f.own ≤ 1 → Agrees from begun w.marks None w.reports w.far.session.table
unfolding marked_item
asked_before Stood from begun w f table few =
    let op : Op (List ℕ) = f.ask.op in
    let item : Item = marked_item op f.moment f.own in
    let holds : ItemHolds (state_after from f.told.items) (Single op f.moment) f.own None (length f.done) item = record {
      is_of = (refl, refl, refl);
      holds = (record { can_be = tt; allowed = tt; few = few_links f.ask f.is_ask.plan f.own few }, tt);
      marked = append-nil f.own;
    } in
    let fewer : length w.reports < length (f.done ++ Single op f.moment ∷ []) = omega (arith, f.told.all, length-more f.done (Single op f.moment)) in
    subst (λ b. Agrees from b w.marks None w.reports w.far.session.table) (sym f.begun_is)
    (subst (λ marks. Agrees from (f.done ++ Single op f.moment ∷ []) marks None w.reports w.far.session.table) (sym f.marks_are) (record {
      items = f.told.items ++ item ∷ [];
      hold = one_more w.reports from 0 (length f.done) f.done f.marks None f.told.items (Single op f.moment) f.own item f.told.all f.told.hold
          (let e : length f.done ≡ 0 + length f.done = omega arith in e) holds;
      map_is = inr (fewer, table ∙ ap (λ s. s.table) (f.told.now_is ∙ sym (before_more from f.told.items item refl)));
    }))

-- and so it does where it fared so, and the map is that behind it
asked_behind : (Stood : State → Ask → List Mark → World → Type 0) (from : State) (begun : List Order) (w : World) → (f : IsAsked Stood from begun w) → (said : Said) (after : State)
    → FaredTo f.now f.ask f.own said after f.moment → w.far.session.table ≡ after.table → length f.own ≤ 1 → Agrees from begun w.marks None w.reports w.far.session.table
asked_behind Stood from begun w f said after fares table few =
    let op : Op (List ℕ) = f.ask.op in
    let there : FaredTo (state_after from f.told.items) f.ask f.own said after f.moment = subst (λ s. FaredTo s f.ask f.own said after f.moment) f.told.now_is fares in
    let item : Item = fared_item op f.moment there.outcome f.own in
    subst (λ b. Agrees from b w.marks None w.reports w.far.session.table) (sym f.begun_is)
    (subst (λ marks. Agrees from (f.done ++ Single op f.moment ∷ []) marks None w.reports w.far.session.table) (sym f.marks_are) (record {
      items = f.told.items ++ item ∷ [];
      hold = one_more w.reports from 0 (length f.done) f.done f.marks None f.told.items (Single op f.moment) f.own item f.told.all f.told.hold
          (let e : length f.done ≡ 0 + length f.done = omega arith in e)
          (fared_holds (state_after from f.told.items) f.ask f.is_ask.plan f.moment (length f.done) f.own said after there few);
      map_is = inl (table ∙ ap (λ s. s.table) (sym (state_more from f.told.items item ∙ fared_leaves (state_after from f.told.items) f.ask f.own said after f.moment there)));
    }))

-- a world with a download, a listing or an upload under way agrees
fetching_agrees : (read : Reading) (from : State) (begun : List Order) (w : World) → (on : IsFetchingOn read from begun w) → Agrees from begun w.marks None w.reports w.far.session.table
fetching_agrees read from begun w on = elim (parts read from begun w on).table [
  | inl same ↦ asked_before (λ now ask own w. PlacedAt (λ way b. AtFetch now ask read own way b) w) from begun w on.fetching same (parts read from begun w on).few
  | inr settles ↦ asked_behind (λ now ask own w. PlacedAt (λ way b. AtFetch now ask read own way b) w) from begun w on.fetching settles.said settles.after settles.fares settles.table
      (parts read from begun w on).few
]

-- so does one with a Peek that has sent ABOR
halting_agrees : (from : State) (begun : List Order) (w : World) → (on : IsHaltingOn from begun w) → Agrees from begun w.marks None w.reports w.far.session.table
halting_agrees from begun w on = let p = halt_parts from begun w on in asked_before (λ now ask own w. AtHalt now ask own w) from begun w on.halting p.table p.few

-- a world that has told a refused REST agrees, though its server is not told yet that the link is closed
trailing_agrees : (read : Reading) (reads : IsReading read) (from : State) (begun : List Order) (w : World) → (t : IsTrailing from begun w) → Agrees from begun w.marks None w.reports w.far.session.table
trailing_agrees read reads from begun w t =
    let told : Told from begun (closed_at read reads from begun w t).marks None (closed_at read reads from begun w t).reports t.now =
    subst (λ marks. Told from begun marks None (closed_at read reads from begun w t).reports t.now) (sym (marks_at read reads from begun w t)) (reported read reads from begun w t [] (omega arith)) in
    subst (λ u. Agrees from begun u.marks None u.reports u.far.session.table) (sym (closed_is read reads from begun w t))
    (told_agrees from begun (closed_at read reads from begun w t).marks None (closed_at read reads from begun w t).reports t.now (closed_at read reads from begun w t).far.session.table told
    t.stands.here.steady.table)

-- a world that runs what was begun agrees with it
pub runs_agree : (read : Reading) (reads : IsReading read) (from : State) (begun : List Order) (w : World) → Runs read from begun w → WorldAgrees from begun w
runs_agree read reads from begun w (inl h) = follows_agrees read from begun w h
runs_agree read reads from begun w (inr (inl on)) =
    subst (λ cutoff. Agrees from begun w.marks cutoff w.reports w.far.session.table) (sym on.fetching.linked.cutoff) (fetching_agrees read from begun w on)
runs_agree read reads from begun w (inr (inr (inr on))) =
    subst (λ cutoff. Agrees from begun w.marks cutoff w.reports w.far.session.table) (sym on.halting.linked.cutoff) (halting_agrees from begun w on)
runs_agree read reads from begun w (inr (inr (inl t))) =
    subst (λ cutoff. Agrees from begun w.marks cutoff w.reports w.far.session.table) (sym t.linked.cutoff) (trailing_agrees read reads from begun w t)
