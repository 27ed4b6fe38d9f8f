use Rattle.ftp_pair_events.proofs.events.Keeping.{none}
use Rattle.ftp_pair_events.proofs.events.parts.Parts.ready_marked.Goals as goal

pub returns-in_err-reserve-clause-counted : goal.returns-in_err-reserve-clause-counted
returns-in_err-reserve-clause-counted g c = none _ _ _

pub returns-in_err-add_mark-clause-counted : goal.returns-in_err-add_mark-clause-counted
returns-in_err-add_mark-clause-counted g c = c.add_mark.ensures.counted

pub returns-clause-counted : goal.returns-clause-counted
returns-clause-counted g c = c.add_mark.ensures.counted
