use Rattle.std.proofs.Common.{arith}
use Rattle.ftp_pair_events.proofs.events.Keeping.{then}
use Rattle.ftp_pair_events.proofs.events.parts.Parts.break_link.Goals as goal

pub returns-clause-counted : goal.returns-clause-counted
returns-clause-counted g c = then c.tell_break.ensures.counted c.lose_link.ensures.counted (omega arith)
