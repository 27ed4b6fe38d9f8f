use Rattle.std.proofs.Common.{length}
use Rattle.tool_scheduler.proofs.crowd.+most.Given as goal

abbrev pub decreases-most : goal.decreases-most
decreases-most l = length l.of.now
