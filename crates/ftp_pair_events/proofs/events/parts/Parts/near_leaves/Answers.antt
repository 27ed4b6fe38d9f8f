use Rattle.std.proofs.Common.{arith}
use Rattle.ftp_pair_events.proofs.events.Keeping.{none, fewer}
use Rattle.ftp_pair_events.proofs.events.parts.Parts.near_leaves.Goals as goal

pub returns-in-Stands-clause-counted : goal.returns-in-Stands-clause-counted
returns-in-Stands-clause-counted g c = none _ _ _

pub returns-in-LeftByFar-clause-counted : goal.returns-in-LeftByFar-clause-counted
returns-in-LeftByFar-clause-counted g c = fewer c.part.ensures.counted (omega arith)

pub returns-in_default-clause-counted : goal.returns-in_default-clause-counted
returns-in_default-clause-counted g c = none _ _ _
