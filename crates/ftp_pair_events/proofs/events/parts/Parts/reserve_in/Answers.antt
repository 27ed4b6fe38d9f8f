use Rattle.ftp_pair_events.proofs.events.Keeping.{none}
use Rattle.ftp_pair_events.proofs.events.parts.Parts.reserve_in.Goals as goal

pub returns-in-ControlToServer-clause-counted : goal.returns-in-ControlToServer-clause-counted
returns-in-ControlToServer-clause-counted g c = none _ _ _

pub returns-in-ControlToClient-clause-counted : goal.returns-in-ControlToClient-clause-counted
returns-in-ControlToClient-clause-counted g c = none _ _ _

pub returns-in-DataToServer-clause-counted : goal.returns-in-DataToServer-clause-counted
returns-in-DataToServer-clause-counted g c = none _ _ _

pub returns-in-DataToClient-clause-counted : goal.returns-in-DataToClient-clause-counted
returns-in-DataToClient-clause-counted g c = none _ _ _
