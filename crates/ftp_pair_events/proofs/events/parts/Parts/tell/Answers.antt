use Rattle.std.proofs.Common.{refl, ap}
use Rattle.ftp_pair_events.proofs.events.Keeping.{held}
use Rattle.ftp_pair_events.proofs.events.parts.Parts.tell.Goals as goal

pub returns-in-ControlToServer-clause-counted : goal.returns-in-ControlToServer-clause-counted
returns-in-ControlToServer-clause-counted g c = held 3 refl (ap (λ s. s.counts) c.control_end.ensures.acts)

pub returns-in-ControlToClient-clause-counted : goal.returns-in-ControlToClient-clause-counted
returns-in-ControlToClient-clause-counted g c = held 3 c.control_end-in-ControlToClient.ensures.now.1 refl

pub returns-in-DataToServer-clause-counted : goal.returns-in-DataToServer-clause-counted
returns-in-DataToServer-clause-counted g c = c.tell_data_to_server.ensures.counted

pub returns-in-DataToClient-clause-counted : goal.returns-in-DataToClient-clause-counted
returns-in-DataToClient-clause-counted g c = c.tell_data_to_client.ensures.counted
