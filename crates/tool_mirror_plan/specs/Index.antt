-- What stands under the names of a directory, as a map of names.
use Rattle.std.specs.Prelude.{◌≡◌, ℕ, List, Option, Some, None, if◌then◌else◌}
use Rattle.std.specs.Ordering.{nat_cmp}
use Rattle.std.specs.Cmp.Lexicographic.{slice_cmp}
use Rattle.std.specs.BTreeMap.{BTreeMap, get_by}
use denote.Ref.{Bor}
use Rattle.tool_listing.specs.declared.entries.item.ItemKind.{ItemKind}
use Rattle.tool_listing.specs.declared.entries.item.ListedItem.{ListedItem}
use Rattle.tool_mirror_plan.specs.Plan.{is_named, stands}

-- what a map has under a name
abbrev pub found : BTreeMap (Bor (List ℕ)) ItemKind → List ℕ → Option ItemKind
found kinds name = get_by (λ k. slice_cmp nat_cmp name k.now) kinds

-- a map has under each name what stands there among entries
abbrev pub Indexes : {A : Type 0} → BTreeMap (Bor (List ℕ)) ItemKind → List (ListedItem A) → Type 0
Indexes kinds items = (name : List ℕ) → found kinds name ≡ stands items name

-- what an entry has under a name
abbrev pub kind_under : {A : Type 0} → List ℕ → ListedItem A → Option ItemKind
kind_under name item = if is_named name item then Some item.kind else None

-- the first of two, where it is there
abbrev pub earlier : Option ItemKind → Option ItemKind → Option ItemKind
earlier (Some kind) other = Some kind
earlier None other = other
