-- Worked rows of mirrors. Each is a theorem that computes.
use Rattle.std.specs.Prelude.{◌≡◌, ℕ, List, [], ◌∷◌, Some, None, codes}
use Rattle.tool_listing.specs.declared.entries.item.ItemKind.{ItemKind}
use Rattle.tool_listing.specs.declared.entries.item.ItemKind.TheVariants as Kinds
use Rattle.tool_listing.specs.declared.entries.item.ItemFacts.{ItemFacts}
use Rattle.tool_listing.specs.declared.entries.item.ListedItem.{ListedItem}
use Rattle.tool_listing.specs.declared.entries.item.DirectoryListing.TheVariants as Listings
use Rattle.tool_mirror_plan.specs.declared.actions.CopyDirection.TheVariants as Ways
use Rattle.tool_mirror_plan.specs.declared.actions.Check.TheVariants as Checks
use Rattle.tool_mirror_plan.specs.declared.actions.Extra.TheVariants as Extras
use Rattle.tool_mirror_plan.specs.declared.actions.Rules.{Rules}
use Rattle.tool_mirror_plan.specs.declared.actions.RefusalReason.TheVariants as Reasons
use Rattle.tool_mirror_plan.specs.declared.actions.Action.{Action}
use Rattle.tool_mirror_plan.specs.declared.actions.Action.TheVariants as Does
use Rattle.tool_mirror_plan.specs.declared.planning.PlanStep.{PlanStep}
use Rattle.tool_mirror_plan.specs.Plan.{plan, refused, whole_plan}

-- from a server, to a server, from one with octets compared; the last two remove what the target has alone, the last however much it is
abbrev pub from_server : Rules
from_server = record { way = Ways.Down; check = Checks.ByFacts; extra = Extras.Kept }

abbrev pub up : Rules
up = record { way = Ways.Up; check = Checks.ByFacts; extra = Extras.Kept }

abbrev pub by_octets : Rules
by_octets = record { way = Ways.Down; check = Checks.ByOctets; extra = Extras.Kept }

abbrev pub down_all : Rules
down_all = record { way = Ways.Down; check = Checks.ByFacts; extra = Extras.Removed }

abbrev pub down_any : Rules
down_any = record { way = Ways.Down; check = Checks.ByFacts; extra = Extras.Any }

-- a file of a size, changed last at a moment
abbrev pub facts : ℕ → ℕ → ItemFacts
facts size moment = record { size = Some size; moment = Some moment }

-- one of which a server tells neither
abbrev pub facts_untold : ItemFacts
facts_untold = record { size = None; moment = None }

-- an entry, and a step, of the name `a`; with another name
abbrev pub item : List ℕ → ItemKind → ListedItem ℕ
item name kind = record { name = name; kind = kind }

abbrev pub a : ItemKind → List (ListedItem ℕ)
a kind = item (codes "a") kind ∷ []

abbrev pub planned_step : List ℕ → Action → PlanStep ℕ
planned_step name action = record { action = action; name = name }

abbrev pub of_a : Action → List (PlanStep ℕ)
of_a action = planned_step (codes "a") action ∷ []

-- files where nothing, or a file, stands
abbrev pub FilesPlanned : Type 0
FilesPlanned =
    (whole_plan from_server (a (Kinds.File (facts 3 5))) [] ≡ of_a (Does.Copy (facts 3 5)))
    × (whole_plan from_server (a (Kinds.File (facts 3 5))) (a (Kinds.File (facts 3 5))) ≡ [])
    × (whole_plan from_server (a (Kinds.File (facts 3 5))) (a (Kinds.File (facts 3 6))) ≡ of_a (Does.Copy (facts 3 5)))
    × (whole_plan from_server (a (Kinds.File (facts 3 5))) (a (Kinds.File (facts 4 5))) ≡ of_a (Does.Copy (facts 3 5)))
    × (whole_plan from_server (a (Kinds.File facts_untold)) (a (Kinds.File (facts 4 5))) ≡ of_a (Does.Copy facts_untold))
    × (whole_plan up (a (Kinds.File (facts 3 5))) (a (Kinds.File (facts 3 6))) ≡ [])
    × (whole_plan up (a (Kinds.File (facts 3 7))) (a (Kinds.File (facts 3 6))) ≡ of_a (Does.Copy (facts 3 7)))
    × (whole_plan up (a (Kinds.File (facts 4 5))) (a (Kinds.File (facts 3 6))) ≡ of_a (Does.Copy (facts 4 5)))
    × (whole_plan up (a (Kinds.File (facts 3 5))) (a (Kinds.File facts_untold)) ≡ of_a (Does.Copy (facts 3 5)))
    × (whole_plan by_octets (a (Kinds.File (facts 3 5))) (a (Kinds.File (facts 3 6))) ≡ of_a (Does.Compare (facts 3 5)))
    × (whole_plan by_octets (a (Kinds.File (facts 3 5))) (a (Kinds.File (facts 4 5))) ≡ of_a (Does.Copy (facts 3 5)))

-- directories, and one where the other has a file
abbrev pub DirsPlanned : Type 0
DirsPlanned =
    (whole_plan from_server (a Kinds.Dir) [] ≡ of_a Does.MakeDir)
    × (whole_plan from_server (a Kinds.Dir) (a Kinds.Dir) ≡ of_a Does.Enter)
    × (whole_plan from_server (a Kinds.Dir) (a (Kinds.File (facts 3 5))) ≡ of_a (Does.Refuse Reasons.File))
    × (whole_plan down_all (a Kinds.Dir) (a (Kinds.File (facts 3 5)))
    ≡ planned_step (codes "a") Does.RemoveFile ∷ planned_step (codes "a") Does.MakeDir ∷ [])
    × (whole_plan from_server (a (Kinds.File (facts 3 5))) (a Kinds.Dir) ≡ of_a (Does.Refuse Reasons.Directory))
    × (whole_plan down_all (a (Kinds.File (facts 3 5))) (a Kinds.Dir)
    ≡ planned_step (codes "a") Does.RemoveDir ∷ planned_step (codes "a") (Does.Copy (facts 3 5)) ∷ [])
    × (whole_plan from_server (a (Kinds.File (facts 3 5))) (a Kinds.Other) ≡ of_a (Does.Refuse Reasons.Neither))
    × (whole_plan from_server (a Kinds.Other) (a (Kinds.File (facts 3 5))) ≡ of_a Does.PassOver)

-- what the target has alone, what is left alone, names of no single file, and listings that are cut off
abbrev pub OthersPlanned : Type 0
OthersPlanned =
    (whole_plan {A = ℕ} from_server [] [] ≡ [])
    × (whole_plan from_server [] (a Kinds.Dir) ≡ [])
    × (whole_plan down_any [] (a Kinds.Dir) ≡ of_a Does.RemoveDir)
    × (whole_plan down_any [] (a (Kinds.File (facts 3 5))) ≡ of_a Does.RemoveFile)
    × (whole_plan down_all [] (a (Kinds.File (facts 3 5))) ≡ refused (Reasons.Emptied 1))
    × (whole_plan down_all [] (item (codes "b") Kinds.Dir ∷ a Kinds.Dir) ≡ refused (Reasons.Emptied 2))
    × (whole_plan down_all [] (a Kinds.Excluded) ≡ [])
    × (whole_plan down_all (a Kinds.Excluded) [] ≡ [])
    × (whole_plan from_server (item (codes "..") Kinds.Dir ∷ []) [] ≡ planned_step (codes "..") (Does.Refuse Reasons.Name) ∷ [])
    × (whole_plan from_server (item (codes "b/c") Kinds.Dir ∷ []) [] ≡ planned_step (codes "b/c") (Does.Refuse Reasons.Name) ∷ [])
    × (whole_plan from_server (item [] Kinds.Dir ∷ []) [] ≡ planned_step [] (Does.Refuse Reasons.Name) ∷ [])
    × (whole_plan down_all (item (codes "b") Kinds.Dir ∷ a (Kinds.File (facts 3 5))) (item (codes "c") Kinds.Dir ∷ [])
    ≡ planned_step (codes "b") Does.MakeDir ∷ planned_step (codes "a") (Does.Copy (facts 3 5)) ∷ planned_step (codes "c") Does.RemoveDir ∷ [])
    × (plan {A = ℕ} down_all Listings.CutOff Listings.CutOff ≡ refused Reasons.CutOff)

-- lines that are no entries: they are told, what has the name of one stays, and where one has none all of the target does
abbrev pub OddPlanned : Type 0
OddPlanned =
    (whole_plan down_all (item (codes "b") Kinds.Odd ∷ []) (item (codes "b") Kinds.Dir ∷ item (codes "c") Kinds.Dir ∷ [])
    ≡ planned_step (codes "b") (Does.Refuse Reasons.Odd) ∷ planned_step (codes "c") Does.RemoveDir ∷ [])
    × (whole_plan down_all (item [] Kinds.Odd ∷ a (Kinds.File (facts 3 5))) (item (codes "c") Kinds.Dir ∷ [])
    ≡ planned_step [] (Does.Refuse Reasons.Odd) ∷ planned_step (codes "a") (Does.Copy (facts 3 5)) ∷ [])
    × (whole_plan down_all (a (Kinds.File (facts 3 5))) (a Kinds.Odd) ≡ of_a (Does.Refuse Reasons.Odd))
    × (whole_plan down_any [] (a Kinds.Odd) ≡ [])
