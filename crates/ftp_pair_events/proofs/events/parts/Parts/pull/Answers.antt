use Rattle.ftp_pair_events.proofs.events.parts.Parts.pull.Goals as goal

pub returns-in-ControlToServer-clause-counted : goal.returns-in-ControlToServer-clause-counted
returns-in-ControlToServer-clause-counted g c = c.pull_control_to_server.ensures.counted

pub returns-in-ControlToClient-clause-counted : goal.returns-in-ControlToClient-clause-counted
returns-in-ControlToClient-clause-counted g c = c.pull_control_to_client.ensures.counted

pub returns-in-DataToServer-clause-counted : goal.returns-in-DataToServer-clause-counted
returns-in-DataToServer-clause-counted g c = c.pull_data_to_server.ensures.counted

pub returns-in-DataToClient-clause-counted : goal.returns-in-DataToClient-clause-counted
returns-in-DataToClient-clause-counted g c = c.pull_data_to_client.ensures.counted
