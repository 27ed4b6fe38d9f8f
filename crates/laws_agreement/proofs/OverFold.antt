-- What is told of the operations of an upload over breaks, one by one, is told of that upload; and so what agrees with them agrees with it.
use Rattle.std.proofs.Common.{◌≡◌, ◌⊎◌, inl, inr, ℕ, zero, suc, ◌+◌, ◌<◌, ◌≤◌, List, [], ◌∷◌, ◌++◌, length, Option, Some, None, refl, sym, ap, subst, ◌∙◌, arith, append-nil}
use Rattle.ftp_operation.specs.Answer.{Said}
use Rattle.ftp_operation.specs.declared.op.Op.{Op}
use Rattle.ftp_direct.specs.Direct.{State}
use Rattle.ftp_tree.specs.Tree.{Table}
use Rattle.ftp_client_model.specs.Tries.{OverBreaks, Run, first_try, run_of}
use Rattle.laws_world.specs.Agreement as Agreement
use Rattle.laws_world.specs.Agreement.{Order, Single, Tries, Agrees}
use Rattle.laws_world.specs.World.{Mark}
use Rattle.laws_agreement.specs.Follows.{Told}
use Rattle.laws_agreement.specs.Tried.{Tried, tried_orders, tried_marks, tried_said, all_marks, IsChain, IsLastOfRun}
use Rattle.laws_agreement.proofs.OverItems.{Matches, fold}
use Rattle.laws_agreement.proofs.Phases.{both_longer, length-more}

-- what is at most something is less or the same
less_or_same : (k n : ℕ) → k ≤ n → (k < n) ⊎ (k ≡ n)
less_or_same zero zero few = inr refl
less_or_same zero (suc n) few = inl (omega arith)
less_or_same (suc k) zero few = absurd (omega (arith, few))
less_or_same (suc k) (suc n) few = elim (less_or_same k n (omega (arith, few))) [
  | inl less ↦ inl (omega (arith, less))
  | inr same ↦ inr (ap suc same)
]

-- where the control connection ends behind the last operation of a run, each operation stands to that end as the upload does
module _ (before more c d : ℕ) (c_is : c ≡ suc (before + more)) (d_is : d ≡ suc before) where
  -- so does each order before it
  pub early_matches : (k : ℕ) → k < before → Matches (Some c) (Some d) (0 + k) (0 + k)
  early_matches k few = inl ((let e : suc (0 + k) < c = omega (arith, few, c_is) in e), (let e : 0 + k < d = omega (arith, few, d_is) in e))

  -- each operation of the run stands to the end as the upload does
  pub late_matches : (k : ℕ) → k ≤ more → Matches (Some c) (Some d) (0 + before + k) (0 + before)
  late_matches k few = elim (less_or_same k more few) [
    | inl less ↦ inl ((let e : suc (0 + before + k) < c = omega (arith, less, c_is) in e), (let e : 0 + before < d = omega (arith, d_is) in e))
    | inr same ↦ inr ((let e : suc (0 + before + k) ≡ c = omega (arith, same, c_is) in e), (let e : suc (0 + before) ≡ d = omega (arith, d_is) in e))
  ]

module _ (upload : OverBreaks) (moment : ℕ) (last : Run) (final : Op (List ℕ)) (own : List Mark) (past : List Tried)
    (chain : IsChain (run_of upload) (first_try upload) past last final) where
  -- so many ends of the control connection go together
  abbrev Fits : Option ℕ → Option ℕ → ℕ → Type 0
  Fits cutoff other before = ((k : ℕ) → k < before → Matches cutoff other (0 + k) (0 + k)) × ((k : ℕ) → k ≤ length past → Matches cutoff other (0 + before + k) (0 + before))

  -- all is told
  pub told_folded : (from : State) (done : List Order) (marks : List (List Mark)) (reports : List Said) (said : Said) (cutoff other : Option ℕ) (now : State) → length reports ≡ length done → length marks ≡ length done
      → IsLastOfRun last final (Some said) → Fits cutoff other (length done)
      → Told from (done ++ (tried_orders moment past ++ Single final moment ∷ [])) (marks ++ (tried_marks past ++ own ∷ [])) cutoff (reports ++ (tried_said past ++ said ∷ [])) now
      → Told from (done ++ Tries upload moment ∷ []) (marks ++ all_marks past own ∷ []) other (reports ++ said ∷ []) now
  told_folded from done marks reports said cutoff other now all each ends fits t =
      let f = fold upload moment last final own past (Some said) cutoff other chain ends reports from 0 done marks t.items all each fits.0 fits.1 t.hold in
      record {
        items = f.folded;
        all = both_longer reports done said (Tries upload moment) all;
        hold = f.hold;
        now_is = t.now_is ∙ sym f.after;
      }

  -- the last is not answered yet
  pub agrees_folded : (from : State) (done : List Order) (marks : List (List Mark)) (reports : List Said) (table : Table) → length reports ≡ length done → length marks ≡ length done
      → Agrees from (done ++ (tried_orders moment past ++ Single final moment ∷ [])) (marks ++ (tried_marks past ++ own ∷ [])) None (reports ++ tried_said past) table
      → Agrees from (done ++ Tries upload moment ∷ []) (marks ++ all_marks past own ∷ []) None reports table
  agrees_folded from done marks reports table all each a =
      let hold = subst (λ said. Agreement.ItemsHold from 0 (done ++ (tried_orders moment past ++ Single final moment ∷ [])) (marks ++ (tried_marks past ++ own ∷ [])) None (reports ++ said) a.items) (sym (append-nil (tried_said past))) a.hold in
      let f = fold upload moment last final own past None None None chain tt reports from 0 done marks a.items all each (λ k few. tt) (λ k few. tt) hold in
      record {
        items = f.folded;
        hold = subst (λ said. Agreement.ItemsHold from 0 (done ++ Tries upload moment ∷ []) (marks ++ all_marks past own ∷ []) None said f.folded) (append-nil reports) f.hold;
        map_is = elim a.map_is [
          | inl behind ↦ inl (behind ∙ ap (λ s. s.table) (sym f.after))
          | inr before ↦ inr ((let e : length reports < length (done ++ Tries upload moment ∷ []) = omega (arith, all, length-more done (Tries upload moment)) in e), before.1 ∙ ap (λ s. s.table) (sym f.before_is))
        ];
      }
