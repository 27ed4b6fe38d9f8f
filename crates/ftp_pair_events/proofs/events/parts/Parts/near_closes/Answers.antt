use Rattle.std.proofs.Common.{refl, arith}
use Rattle.ftp_pair_events.proofs.events.Keeping.{held, after}
use Rattle.ftp_pair_events.proofs.events.parts.Parts.near_closes.Goals as goal

pub returns-in-Opened-clause-counted : goal.returns-in-Opened-clause-counted
returns-in-Opened-clause-counted g c = held 3 c.data_closed.ensures.now.1 refl

pub returns-in-ClosedByFar-clause-counted : goal.returns-in-ClosedByFar-clause-counted
returns-in-ClosedByFar-clause-counted g c = after c.lose_link.ensures.counted (held 3 c.data_closed.ensures.now.1 refl) (omega arith)

pub returns-in_default-clause-counted : goal.returns-in_default-clause-counted
returns-in_default-clause-counted g c = held 3 c.data_closed.ensures.now.1 refl
