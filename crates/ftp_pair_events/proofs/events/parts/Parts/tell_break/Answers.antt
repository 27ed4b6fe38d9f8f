use Rattle.std.proofs.Common.{arith}
use Rattle.ftp_pair_events.proofs.events.Keeping.{none, then, fewer, at_most}
use Rattle.ftp_pair_events.proofs.events.parts.Parts.tell_break.Goals as goal

pub returns-in-Gone-clause-counted : goal.returns-in-Gone-clause-counted
returns-in-Gone-clause-counted g c = none _ _ _

pub returns-in-Opened-clause-counted : goal.returns-in-Opened-clause-counted
returns-in-Opened-clause-counted g c = then c.fault_near.ensures.counted c.fault_far.ensures.counted (at_most 6)

pub returns-in-ClosedByNear-clause-counted : goal.returns-in-ClosedByNear-clause-counted
returns-in-ClosedByNear-clause-counted g c = fewer c.fault_far-in-ClosedByNear.ensures.counted (omega arith)

pub returns-in-ClosedByFar-clause-counted : goal.returns-in-ClosedByFar-clause-counted
returns-in-ClosedByFar-clause-counted g c = fewer c.fault_near-in-ClosedByFar.ensures.counted (omega arith)
