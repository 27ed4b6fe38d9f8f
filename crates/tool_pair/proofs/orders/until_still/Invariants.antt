use Rattle.std.proofs.Common.{[]}
use Rattle.tool_pair.specs.Telling.{LeadsTelling}
use Rattle.tool_pair.proofs.orders.until_still.Given as goal

abbrev pub invariant-loop : goal.invariant-loop
invariant-loop g l = LeadsTelling [] l.fn.world l.world l.fn.transcript l.transcript
