-- How something comes in the place of something else (own choice; rename(2) puts no file over a directory, and no directory over a file).
use Rattle.tool_mirror_plan.specs.declared.actions.CopyDirection.{CopyDirection}
use Rattle.tool_mirror_plan.specs.declared.actions.CopyDirection.TheVariants as Ways
use Rattle.tool_mirror.specs.declared.queue.entry.Removal.{Removal}
use Rattle.tool_mirror.specs.declared.queue.entry.Removal.TheVariants as Removals
use Rattle.tool_mirror.specs.declared.queue.entry.Replacement.{Replacement}
use Rattle.tool_mirror.specs.declared.queue.entry.Replacement.TheVariants as Replacements
use Rattle.tool_mirror.specs.declared.walk.replacing.Exchange.{Exchange}
use Rattle.tool_mirror.specs.declared.walk.replacing.Exchange.TheVariants as Exchanges

-- by one rename where a file of this machine comes over what is no directory; else it is made beside it
abbrev pub exchange_of : Removal → Replacement → CopyDirection → Exchange
exchange_of removal Replacements.Dir way = Exchanges.Dir
exchange_of Removals.Dir (Replacements.File facts) way = Exchanges.File facts
exchange_of Removals.File (Replacements.File facts) Ways.Up = Exchanges.File facts
exchange_of Removals.File (Replacements.File facts) Ways.Down = Exchanges.OneRename facts
