use Rattle.std.proofs.Common.{refl}
use Rattle.ftp_pair_events.proofs.events.Keeping.{held}
use Rattle.ftp_pair_events.proofs.events.parts.Parts.collect.Goals as goal

pub returns-in-Some-clause-counted : goal.returns-in-Some-clause-counted
returns-in-Some-clause-counted g c = held 0 c.report.ensures.taken.1 refl

pub returns-in_default-clause-counted : goal.returns-in_default-clause-counted
returns-in_default-clause-counted g c = held 0 c.report.ensures.taken.1 refl
