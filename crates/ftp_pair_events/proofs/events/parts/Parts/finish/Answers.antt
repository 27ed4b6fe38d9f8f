use Rattle.std.proofs.Common.{arith}
use Rattle.ftp_pair_events.proofs.events.Keeping.{then}
use Rattle.ftp_pair_events.proofs.events.parts.Parts.finish.Goals as goal

pub returns-clause-counted : goal.returns-clause-counted
returns-clause-counted g c = then c.serve.ensures.counted c.collect.ensures.counted (omega arith)
