-- What a map of names has, one entry after another.
use Rattle.std.proofs.Common.{◌≡◌, inl, inr, ◌++◌, ◌∙◌, ℕ, List, [], ◌∷◌, Option, Some, None, sym, refl, ap, arith, if◌then◌else◌}
use Rattle.std.proofs.lemmas.Bool.{cases_Bool}
use Rattle.std.proofs.lemmas.Slice.Eq.{bytes_eq-Decides}
use Rattle.std.specs.Map.{update}
use Rattle.std.specs.Str.{bytes_eq}
use Rattle.tool_listing.specs.declared.entries.item.ItemKind.{ItemKind}
use Rattle.tool_listing.specs.declared.entries.item.ListedItem.{ListedItem}
use Rattle.tool_mirror_plan.specs.Index.{earlier, kind_under}
use Rattle.tool_mirror_plan.specs.Plan.{is_named, stands}

-- what is found, and nothing else
pub earlier_none : (kind : Option ItemKind) → kind ≡ earlier kind None
earlier_none None = refl
earlier_none (Some kind) = refl

-- what is put under a name that nothing has yet comes behind all that is found
pub put_one : (f : List ℕ → Option ItemKind) (bs name : List ℕ) (kind : ItemKind) → f bs ≡ None
    → update bytes_eq f bs (Some kind) name ≡ earlier (f name) (if bytes_eq bs name then Some kind else None)
put_one f bs name kind free = elim (cases_Bool (bytes_eq bs name)) [
  | inl e ↦
      let same : bs ≡ name = (bytes_eq-Decides bs name).0 e in
      rw e (ap (λ k. earlier k (Some kind)) (sym (ap f (sym same) ∙ free)))
  | inr e ↦ rw e (earlier_none (f name))
]

-- of one more entry
pub stands_more : {A : Type 0} (items : List (ListedItem A)) (item : ListedItem A) (name : List ℕ)
    → stands (items ++ item ∷ []) name ≡ earlier (stands items name) (kind_under name item)
stands_more [] item name = elim (cases_Bool (is_named name item)) [ inl e ↦ grind arith | inr e ↦ grind arith ]
stands_more (first ∷ items) item name = elim (cases_Bool (is_named name first)) [ inl e ↦ grind arith | inr e ↦ grind (arith, stands_more items item name) ]
