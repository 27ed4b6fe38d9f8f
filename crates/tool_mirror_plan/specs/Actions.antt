-- What is done of one name, by what stands under it in the source and in the target (own choice; facts are those of RFC 3659, section 7.5).
use Rattle.std.specs.Prelude.{ℕ, ◌+◌, ◌==◌, ◌||◌, Bool, true, false, not, nat_le, nat_lt, Option, Some, None, if◌then◌else◌}
use Rattle.tool_listing.specs.entries.Name.{is_name}
use Rattle.tool_listing.specs.declared.entries.item.ItemFacts.{ItemFacts}
use Rattle.tool_listing.specs.declared.entries.item.ItemKind.{ItemKind}
use Rattle.tool_listing.specs.declared.entries.item.ItemKind.TheVariants as Kinds
use Rattle.tool_listing.specs.declared.entries.item.ListedItem.{ListedItem}
use Rattle.tool_mirror_plan.specs.declared.actions.CopyDirection.{CopyDirection}
use Rattle.tool_mirror_plan.specs.declared.actions.CopyDirection.TheVariants as Ways
use Rattle.tool_mirror_plan.specs.declared.actions.Check.{Check}
use Rattle.tool_mirror_plan.specs.declared.actions.Check.TheVariants as Checks
use Rattle.tool_mirror_plan.specs.declared.actions.Extra.{Extra}
use Rattle.tool_mirror_plan.specs.declared.actions.Extra.TheVariants as Extras
use Rattle.tool_mirror_plan.specs.declared.actions.Rules.{Rules}
use Rattle.tool_mirror_plan.specs.declared.actions.RefusalReason.{RefusalReason}
use Rattle.tool_mirror_plan.specs.declared.actions.RefusalReason.TheVariants as Reasons
use Rattle.tool_mirror_plan.specs.declared.actions.Action.{Action}
use Rattle.tool_mirror_plan.specs.declared.actions.Action.TheVariants as Does
use Rattle.tool_mirror_plan.specs.declared.actions.Actions.{Actions}
use Rattle.tool_mirror_plan.specs.declared.actions.Actions.TheVariants as Many

-- two numbers that are both known are not the same
abbrev pub differ : Option ℕ → Option ℕ → Bool
differ (Some one) (Some other) = not (one == other)
differ (Some one) None = false
differ None other = false

-- of two moments that are both known the first is later
abbrev pub is_later : Option ℕ → Option ℕ → Bool
is_later (Some one) (Some other) = nat_lt other one
is_later (Some one) None = false
is_later None other = false

-- neither size nor moment is known
abbrev pub is_untold : Option ℕ → Option ℕ → Bool
is_untold None None = true
is_untold None (Some moment) = false
is_untold (Some size) moment = false

-- A file of the source is another than that of the target. Down: it has another size or another moment, since the copy is given the server's moment.
-- Up: it has another size, or was changed after the server's. Where the server tells neither, they are taken to differ.
abbrev pub differs : CopyDirection → ItemFacts → ItemFacts → Bool
differs Ways.Down source target = is_untold source.size source.moment || differ source.size target.size || differ source.moment target.moment
differs Ways.Up source target = is_untold target.size target.moment || differ source.size target.size || is_later source.moment target.moment

-- a file where a file stands: copied where it differs
abbrev pub onto_by_facts : CopyDirection → ItemFacts → ItemFacts → Actions
onto_by_facts way source target = if differs way source target then Many.One (Does.Copy source) else Many.Nothing

-- the same where octets are compared: copied at once only where the sizes differ
abbrev pub onto_by_octets : ItemFacts → ItemFacts → Actions
onto_by_octets source target = if differ source.size target.size then Many.One (Does.Copy source) else Many.One (Does.Compare source)

abbrev pub file_onto_file : Check → CopyDirection → ItemFacts → ItemFacts → Actions
file_onto_file Checks.ByFacts way source target = onto_by_facts way source target
file_onto_file Checks.ByOctets way source target = onto_by_octets source target

-- in the place of something else: that is removed first, or where nothing is removed it is refused
abbrev pub in_place : Extra → Action → Action → RefusalReason → Actions
in_place Extras.Kept removal action reason = Many.One (Does.Refuse reason)
in_place Extras.Removed removal action reason = Many.Two removal action
in_place Extras.Any removal action reason = Many.Two removal action

-- a file of the source, where this stands in the target
abbrev pub file_onto : Rules → ItemFacts → Option ItemKind → Actions
file_onto rules source None = Many.One (Does.Copy source)
file_onto rules source (Some (Kinds.File target)) = file_onto_file rules.check rules.way source target
file_onto rules source (Some Kinds.Dir) = in_place rules.extra Does.RemoveDir (Does.Copy source) Reasons.Directory
file_onto rules source (Some Kinds.Other) = in_place rules.extra Does.RemoveFile (Does.Copy source) Reasons.Neither
file_onto rules source (Some Kinds.Excluded) = Many.Nothing
file_onto rules source (Some Kinds.Odd) = Many.One (Does.Refuse Reasons.Odd)

-- a directory of the source, where this stands in the target
abbrev pub dir_onto : Rules → Option ItemKind → Actions
dir_onto rules None = Many.One Does.MakeDir
dir_onto rules (Some (Kinds.File target)) = in_place rules.extra Does.RemoveFile Does.MakeDir Reasons.File
dir_onto rules (Some Kinds.Dir) = Many.One Does.Enter
dir_onto rules (Some Kinds.Other) = in_place rules.extra Does.RemoveFile Does.MakeDir Reasons.Neither
dir_onto rules (Some Kinds.Excluded) = Many.Nothing
dir_onto rules (Some Kinds.Odd) = Many.One (Does.Refuse Reasons.Odd)

-- what stands in the source, where this stands in the target
abbrev pub onto : Rules → ItemKind → Option ItemKind → Actions
onto rules (Kinds.File source) target = file_onto rules source target
onto rules Kinds.Dir target = dir_onto rules target
onto rules Kinds.Other target = Many.One Does.PassOver
onto rules Kinds.Excluded target = Many.Nothing
onto rules Kinds.Odd target = Many.One (Does.Refuse Reasons.Odd)

-- why an entry is refused whose name is none of a single file: a line that is no entry is told as that
abbrev pub nameless : ItemKind → RefusalReason
nameless Kinds.Odd = Reasons.Odd
nameless kind = Reasons.Name

-- an entry of the source: only one with the name of a single file
abbrev pub actions_for : {A : Type 0} → Rules → ListedItem A → Option ItemKind → Actions
actions_for rules item target = if is_name item.name then onto rules item.kind target else Many.One (Does.Refuse (nameless item.kind))

-- what stands in the target alone, where that is removed
abbrev pub removal : ItemKind → Actions
removal (Kinds.File facts) = Many.One Does.RemoveFile
removal Kinds.Dir = Many.One Does.RemoveDir
removal Kinds.Other = Many.One Does.RemoveFile
removal Kinds.Excluded = Many.Nothing
removal Kinds.Odd = Many.Nothing

-- an entry of the target alone: as it stands, or removed
abbrev pub alone : {A : Type 0} → Extra → ListedItem A → Actions
alone Extras.Kept item = Many.Nothing
alone Extras.Removed item = if is_name item.name then removal item.kind else Many.One (Does.Refuse (nameless item.kind))
alone Extras.Any item = if is_name item.name then removal item.kind else Many.One (Does.Refuse (nameless item.kind))

-- an entry of the target, where this stands in the source
abbrev pub removal_for : {A : Type 0} → Rules → ListedItem A → Option ItemKind → Actions
removal_for rules item None = alone rules.extra item
removal_for rules item (Some kind) = Many.Nothing

-- so many entries may be removed of a target that held so many: ten always, half of them, or any number where that is asked for
abbrev pub may_remove : Extra → ℕ → ℕ → Bool
may_remove Extras.Kept held removed = false
may_remove Extras.Removed held removed = nat_le removed 10 || nat_le (removed + removed) held
may_remove Extras.Any held removed = true
