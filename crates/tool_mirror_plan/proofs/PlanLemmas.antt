-- What is planned of one entry.
use Rattle.std.proofs.Common.{◌≡◌, ◌++◌, ◌∙◌, ℕ, List, Option, ap}
use Rattle.tool_mirror_plan.specs.declared.actions.Actions.{Actions}
use Rattle.tool_listing.specs.declared.entries.item.ListedItem.{ListedItem}
use Rattle.tool_listing.specs.declared.entries.item.ItemKind.{ItemKind}
use Rattle.tool_mirror_plan.specs.declared.planning.PlanStep.{PlanStep}
use Rattle.tool_mirror_plan.specs.Plan.{stands, steps}

-- what is put of an entry is what is done of it, by what stands under its name among others
pub one_planned : {A : Type 0} (done : Option ItemKind → Actions) (others : List (ListedItem A)) (item : ListedItem A) (name : List ℕ) (kind : Option ItemKind)
    (actions : Actions) (old new : List (PlanStep A)) → name ≡ item.name → kind ≡ stands others name → actions ≡ done kind → new ≡ old ++ steps name actions
    → new ≡ old ++ steps item.name (done (stands others item.name))
one_planned done others item name kind actions old new named found decided put =
    put ∙ ap (λ d. old ++ steps name d) (decided ∙ ap done found) ∙ ap (λ n. old ++ steps n (done (stands others n))) named
