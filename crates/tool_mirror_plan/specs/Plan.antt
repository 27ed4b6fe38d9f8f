-- What a mirror does of a directory, by the listing of the source and that of the target (own choice).
use Rattle.std.specs.Prelude.{ℕ, ◌++◌, List, [], ◌∷◌, length, flat_map, find, option_map, nat_eq, ◌&&◌, Bool, true, false, not, Option, if◌then◌else◌}
use Rattle.std.specs.List.{list_any}
use Rattle.std.specs.Cmp.Lexicographic.{pointwise}
use Rattle.tool_listing.specs.declared.entries.item.ItemKind.{ItemKind}
use Rattle.tool_listing.specs.declared.entries.item.ItemKind.TheVariants as Kinds
use Rattle.tool_listing.specs.declared.entries.item.ListedItem.{ListedItem}
use Rattle.tool_listing.specs.declared.entries.item.DirectoryListing.{DirectoryListing}
use Rattle.tool_listing.specs.declared.entries.item.DirectoryListing.TheVariants as Listings
use Rattle.tool_mirror_plan.specs.declared.actions.Rules.{Rules}
use Rattle.tool_mirror_plan.specs.declared.actions.Extra.{Extra}
use Rattle.tool_mirror_plan.specs.declared.actions.Extra.TheVariants as Extras
use Rattle.tool_mirror_plan.specs.declared.actions.RefusalReason.{RefusalReason}
use Rattle.tool_mirror_plan.specs.declared.actions.RefusalReason.TheVariants as Reasons
use Rattle.tool_mirror_plan.specs.declared.actions.Action.TheVariants as Does
use Rattle.tool_mirror_plan.specs.declared.actions.Actions.{Actions}
use Rattle.tool_mirror_plan.specs.declared.actions.Actions.TheVariants as Many
use Rattle.tool_mirror_plan.specs.declared.planning.PlanStep.{PlanStep}
use Rattle.tool_mirror_plan.specs.Actions.{actions_for, removal_for}
use Rattle.tool_listing.specs.entries.Name.{is_name}

-- a line that is no entry
abbrev pub is_odd : ItemKind → Bool
is_odd Kinds.Odd = true
is_odd kind = false

-- an entry has this name
abbrev pub is_named : {A : Type 0} → List ℕ → ListedItem A → Bool
is_named name item = pointwise nat_eq item.name name

-- what stands under a name among entries: the first that has it
abbrev pub stands : {A : Type 0} → List (ListedItem A) → List ℕ → Option ItemKind
stands items name = option_map (λ item. item.kind) (find (is_named name) items)

-- what is done, in its order, of a name
abbrev pub steps : {A : Type 0} → List ℕ → Actions → List (PlanStep A)
steps name Many.Nothing = []
steps name (Many.One action) = record { action = action; name = name } ∷ []
steps name (Many.Two first second) = record { action = first; name = name } ∷ record { action = second; name = name } ∷ []

-- of an entry of the source, by what stands under its name in the target
abbrev pub copying : {A : Type 0} → Rules → List (ListedItem A) → ListedItem A → List (PlanStep A)
copying rules target item = steps item.name (actions_for rules item (stands target item.name))

-- of an entry of the target, by what stands under its name in the source
abbrev pub clearing : {A : Type 0} → Rules → List (ListedItem A) → ListedItem A → List (PlanStep A)
clearing rules source item = steps item.name (removal_for rules item (stands source item.name))

-- where one of both is cut off, or would be emptied, it is refused, and nothing is done
abbrev pub refused : {A : Type 0} → RefusalReason → List (PlanStep A)
refused reason = record { action = Does.Refuse reason; name = [] } ∷ []

-- where the source lists nothing, what would be removed stays, and that is told; unless any number may be removed
abbrev pub guarded : {A : Type 0} → Extra → List (ListedItem A) → List (PlanStep A) → List (PlanStep A)
guarded Extras.Removed [] (first ∷ rest) = refused (Reasons.Emptied (length (first ∷ rest)))
guarded extra source planned = planned

-- a line that is no entry and tells no name: whatever stands in the target may be it
abbrev pub is_unnamed : {A : Type 0} → ListedItem A → Bool
is_unnamed item = is_odd item.kind && not (is_name item.name)

-- of all entries of the target: none is removed where the source has such a line
abbrev pub clearing_all : {A : Type 0} → Rules → List (ListedItem A) → List (ListedItem A) → List (PlanStep A)
clearing_all rules source target = if list_any is_unnamed source then [] else flat_map (clearing rules source) target

-- all that is done of whole listings: first of each entry of the source, and then of each of the target, both in their orders
abbrev pub whole_plan : {A : Type 0} → Rules → List (ListedItem A) → List (ListedItem A) → List (PlanStep A)
whole_plan rules source target = guarded rules.extra source (flat_map (copying rules target) source ++ clearing_all rules source target)

abbrev pub plan : {A : Type 0} → Rules → DirectoryListing A → DirectoryListing A → List (PlanStep A)
plan rules (Listings.Whole source) (Listings.Whole target) = whole_plan rules source.items target.items
plan rules (Listings.Whole source) Listings.CutOff = refused Reasons.CutOff
plan rules Listings.CutOff target = refused Reasons.CutOff
