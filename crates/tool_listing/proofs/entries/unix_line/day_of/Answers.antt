use Rattle.std.proofs.Common.{arith}
use Rattle.tool_listing.proofs.entries.UnixLemmas.{few}
use Rattle.tool_listing.proofs.entries.unix_line.day_of.Goals as goal

pub returns-clause-few : goal.returns-clause-few
returns-clause-few c = few c.args.text.now c.number_in.result (omega arith) c.number_in.ensures.value
