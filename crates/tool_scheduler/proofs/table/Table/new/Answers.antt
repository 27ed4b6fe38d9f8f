use Rattle.std.proofs.Common.{subst, sym}
use Rattle.tool_scheduler.specs.Sharing.{AreFree, occupants_of}
use Rattle.tool_scheduler.proofs.SharingLemmas.{free_more}
use Rattle.tool_scheduler.proofs.table.Table.new.Goals as goal

pub loop-preserved : goal.loop-preserved
loop-preserved g c = subst (λ slots. AreFree (occupants_of slots)) (sym c.in_ok-push.ensures.items) (free_more c.loop.slots.items c.loop.invariant)
