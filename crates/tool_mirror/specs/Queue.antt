-- What of a mirror is still to be done, and whether its removals begin (own choice).
use Rattle.std.specs.Prelude.{ℕ, ◌==◌, Bool, true, false, Option, Some, None, nat_eq, if◌then◌else◌}
use Rattle.std.specs.Cmp.Lexicographic.{pointwise}
use Rattle.tool_mirror_plan.specs.Actions.{may_remove}
use Rattle.tool_mirror_plan.specs.declared.actions.Action.{Action}
use Rattle.tool_mirror_plan.specs.declared.actions.Action.TheVariants as Does
use Rattle.tool_mirror_plan.specs.declared.actions.Extra.{Extra}
use Rattle.tool_mirror_plan.specs.declared.planning.PlanStep.{PlanStep}
use Rattle.tool_mirror.specs.declared.queue.entry.QueuedAction.{QueuedAction}
use Rattle.tool_mirror.specs.declared.queue.entry.QueuedAction.TheVariants as Queued
use Rattle.tool_mirror.specs.declared.queue.entry.Removal.{Removal}
use Rattle.tool_mirror.specs.declared.queue.entry.Removal.TheVariants as Removals
use Rattle.tool_mirror.specs.declared.queue.entry.Replacement.{Replacement}
use Rattle.tool_mirror.specs.declared.queue.entry.Replacement.TheVariants as Replacements
use Rattle.tool_mirror.specs.declared.queue.removal_counts.RemovalCounts.{RemovalCounts}
use Rattle.tool_mirror.specs.declared.queue.removal_counts.Settled.{Settled}
use Rattle.tool_mirror.specs.declared.queue.removal_counts.Settled.TheVariants as Settles

-- what waits for a step of a plan that stands alone: what it removes is what the listing of the source lacked
abbrev pub queued_by : Action → QueuedAction
queued_by (Does.Copy facts) = Queued.Copy facts
queued_by (Does.Compare facts) = Queued.Compare facts
queued_by Does.MakeDir = Queued.MakeDir
queued_by Does.Enter = Queued.Enter
queued_by Does.RemoveFile = Queued.RemoveLacking Removals.File
queued_by Does.RemoveDir = Queued.RemoveLacking Removals.Dir
queued_by Does.PassOver = Queued.PassOver
queued_by (Does.Refuse reason) = Queued.Refuse reason

-- what an action removes that waits until all else is done, as long as the removals have not begun
abbrev pub deferred : QueuedAction → (is_removing : Bool) → Option Removal
deferred action true = None
deferred (Queued.RemoveLacking removal) false = Some removal
deferred (Queued.Replace removal replacement) false = Some removal
deferred action false = None

-- what is done where something that stands below has to stay: nothing comes in its place
abbrev pub spared : QueuedAction → QueuedAction
spared (Queued.Replace removal replacement) = Queued.Keep
spared action = action

-- what a step removes, if it removes something
abbrev pub removal_of : Action → Option Removal
removal_of Does.RemoveFile = Some Removals.File
removal_of Does.RemoveDir = Some Removals.Dir
removal_of action = None

-- what a step makes, if it makes something
abbrev pub replacement_of : Action → Option Replacement
replacement_of (Does.Copy facts) = Some (Replacements.File facts)
replacement_of Does.MakeDir = Some Replacements.Dir
replacement_of action = None

-- a removal and what comes in its place, where both are
abbrev pub replaced : Option Removal → Option Replacement → Option QueuedAction
replaced (Some removal) (Some replacement) = Some (Queued.Replace removal replacement)
replaced (Some removal) None = None
replaced None replacement = None

-- what waits for two steps of a plan, one behind the other, where what the first removes gives way to what the next one makes under its name
abbrev pub replacing : {A : Type 0} → PlanStep A → PlanStep A → Option QueuedAction
replacing step next = if pointwise nat_eq step.name next.name then replaced (removal_of step.action) (replacement_of next.action) else None

-- what becomes of so many removals, once all else is done: they begin, unless they are too much of what the target held
abbrev pub settled_by : Extra → (removals : ℕ) → RemovalCounts → Settled
settled_by extra removals counts =
    if removals == 0 then Settles.Nothing else (if may_remove extra counts.held counts.removed then Settles.Begun else Settles.TooMany counts)
