use Rattle.std.proofs.Common.{length}
use Rattle.tool_scheduler.proofs.crowd.+slots_of.Given as goal

abbrev pub decreases-slots_of : goal.decreases-slots_of
decreases-slots_of l = length l.slots.now
