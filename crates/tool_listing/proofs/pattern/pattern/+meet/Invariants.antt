use Rattle.std.proofs.Common.{length}
use Rattle.tool_listing.proofs.pattern.pattern.+meet.Given as goal

abbrev pub decreases-meet : goal.decreases-meet
decreases-meet l = length l.pattern.now
