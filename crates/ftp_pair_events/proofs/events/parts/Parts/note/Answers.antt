use Rattle.std.proofs.Common.{arith}
use Rattle.ftp_pair_events.proofs.events.Keeping.{fewer}
use Rattle.ftp_pair_events.proofs.events.parts.Parts.note.Goals as goal

pub returns-clause-counted : goal.returns-clause-counted
returns-clause-counted g c = fewer c.set_clock.ensures.counted (omega arith)
