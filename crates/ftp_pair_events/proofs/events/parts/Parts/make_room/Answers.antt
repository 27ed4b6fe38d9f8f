use Rattle.ftp_pair_events.proofs.events.Keeping.{none}
use Rattle.ftp_pair_events.proofs.events.parts.Parts.make_room.Goals as goal

pub returns-in_err-reserve-clause-counted : goal.returns-in_err-reserve-clause-counted
returns-in_err-reserve-clause-counted g c = none _ _ _

pub returns-in_err-reserve-2-clause-counted : goal.returns-in_err-reserve-2-clause-counted
returns-in_err-reserve-2-clause-counted g c = none _ _ _

pub returns-in_err-reserve-3-clause-counted : goal.returns-in_err-reserve-3-clause-counted
returns-in_err-reserve-3-clause-counted g c = none _ _ _

pub returns-clause-counted : goal.returns-clause-counted
returns-clause-counted g c = none _ _ _
