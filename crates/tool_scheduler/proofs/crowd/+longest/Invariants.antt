use Rattle.std.proofs.Common.{length}
use Rattle.tool_scheduler.proofs.crowd.+longest.Given as goal

abbrev pub decreases-longest : goal.decreases-longest
decreases-longest l = length l.of.now
