use Rattle.ftp_pair_events.proofs.events.Keeping.{none}
use Rattle.ftp_pair_events.proofs.events.parts.Parts.serve_far.Goals as goal

pub returns-in-CloseData-clause-counted : goal.returns-in-CloseData-clause-counted
returns-in-CloseData-clause-counted g c = c.far_closes.ensures.counted

pub returns-in-Listen-clause-counted : goal.returns-in-Listen-clause-counted
returns-in-Listen-clause-counted g c = c.far_listens.ensures.counted

pub returns-in-CloseAll-clause-counted : goal.returns-in-CloseAll-clause-counted
returns-in-CloseAll-clause-counted g c = c.far_leaves.ensures.counted

pub returns-in_default-clause-counted : goal.returns-in_default-clause-counted
returns-in_default-clause-counted g c = none _ _ _
