use Rattle.ftp_pair_events.proofs.events.Keeping.{none}
use Rattle.ftp_pair_events.proofs.events.parts.Parts.add_mark.Goals as goal

pub returns-clause-counted : goal.returns-clause-counted
returns-clause-counted g c = none _ _ _
