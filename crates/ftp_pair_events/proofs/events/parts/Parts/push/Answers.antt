use Rattle.std.proofs.Common.{sym, ap}
use Rattle.laws_world.specs.Events.{ControlToServer, ControlToClient, DataToServer, DataToClient}
use Rattle.ftp_pair_events.specs.events.Shown.{shown, queue_of}
use Rattle.ftp_pair_events.proofs.events.Taking.{pushed_over, takes_over}
use Rattle.ftp_pair_events.proofs.events.parts.Parts.push.Goals as goal

pub returns-in-ControlToServer-clause-moved : goal.returns-in-ControlToServer-clause-moved
returns-in-ControlToServer-clause-moved g c calm =
    let moved = c.push_control_to_server.ensures.moved calm in
    (moved.0, λ read reads. pushed_over read ControlToServer (queue_of c.args.queue) c.push_control_to_server.result (shown g.N.Near.client g.F.Far.server c.args.self.now) (shown g.N.Near.client g.F.Far.server c.push_control_to_server.new.self) (ap queue_of (sym c.in-ControlToServer.is)) (moved.1 read reads))

pub returns-in-ControlToServer-clause-takes : goal.returns-in-ControlToServer-clause-takes
returns-in-ControlToServer-clause-takes g c calm =
    let takes = c.push_control_to_server.ensures.takes calm in
    (takes.0, λ read reads. takes_over read ControlToServer (queue_of c.args.queue) c.args.most c.push_control_to_server.result (shown g.N.Near.client g.F.Far.server c.args.self.now) (ap queue_of (sym c.in-ControlToServer.is)) (takes.1 read reads))

pub returns-in-ControlToClient-clause-moved : goal.returns-in-ControlToClient-clause-moved
returns-in-ControlToClient-clause-moved g c calm =
    let moved = c.push_control_to_client.ensures.moved calm in
    (moved.0, λ read reads. pushed_over read ControlToClient (queue_of c.args.queue) c.push_control_to_client.result (shown g.N.Near.client g.F.Far.server c.args.self.now) (shown g.N.Near.client g.F.Far.server c.push_control_to_client.new.self) (ap queue_of (sym c.in-ControlToClient.is)) (moved.1 read reads))

pub returns-in-ControlToClient-clause-takes : goal.returns-in-ControlToClient-clause-takes
returns-in-ControlToClient-clause-takes g c calm =
    let takes = c.push_control_to_client.ensures.takes calm in
    (takes.0, λ read reads. takes_over read ControlToClient (queue_of c.args.queue) c.args.most c.push_control_to_client.result (shown g.N.Near.client g.F.Far.server c.args.self.now) (ap queue_of (sym c.in-ControlToClient.is)) (takes.1 read reads))

pub returns-in-DataToServer-clause-moved : goal.returns-in-DataToServer-clause-moved
returns-in-DataToServer-clause-moved g c calm =
    let moved = c.push_data_to_server.ensures.moved calm in
    (moved.0, λ read reads. pushed_over read DataToServer (queue_of c.args.queue) c.push_data_to_server.result (shown g.N.Near.client g.F.Far.server c.args.self.now) (shown g.N.Near.client g.F.Far.server c.push_data_to_server.new.self) (ap queue_of (sym c.in-DataToServer.is)) (moved.1 read reads))

pub returns-in-DataToServer-clause-takes : goal.returns-in-DataToServer-clause-takes
returns-in-DataToServer-clause-takes g c calm =
    let takes = c.push_data_to_server.ensures.takes calm in
    (takes.0, λ read reads. takes_over read DataToServer (queue_of c.args.queue) c.args.most c.push_data_to_server.result (shown g.N.Near.client g.F.Far.server c.args.self.now) (ap queue_of (sym c.in-DataToServer.is)) (takes.1 read reads))

pub returns-in-DataToClient-clause-moved : goal.returns-in-DataToClient-clause-moved
returns-in-DataToClient-clause-moved g c calm =
    let moved = c.push_data_to_client.ensures.moved calm in
    (moved.0, λ read reads. pushed_over read DataToClient (queue_of c.args.queue) c.push_data_to_client.result (shown g.N.Near.client g.F.Far.server c.args.self.now) (shown g.N.Near.client g.F.Far.server c.push_data_to_client.new.self) (ap queue_of (sym c.in-DataToClient.is)) (moved.1 read reads))

pub returns-in-DataToClient-clause-takes : goal.returns-in-DataToClient-clause-takes
returns-in-DataToClient-clause-takes g c calm =
    let takes = c.push_data_to_client.ensures.takes calm in
    (takes.0, λ read reads. takes_over read DataToClient (queue_of c.args.queue) c.args.most c.push_data_to_client.result (shown g.N.Near.client g.F.Far.server c.args.self.now) (ap queue_of (sym c.in-DataToClient.is)) (takes.1 read reads))

pub returns-in-ControlToServer-clause-counted : goal.returns-in-ControlToServer-clause-counted
returns-in-ControlToServer-clause-counted g c = c.push_control_to_server.ensures.counted

pub returns-in-ControlToClient-clause-counted : goal.returns-in-ControlToClient-clause-counted
returns-in-ControlToClient-clause-counted g c = c.push_control_to_client.ensures.counted

pub returns-in-DataToServer-clause-counted : goal.returns-in-DataToServer-clause-counted
returns-in-DataToServer-clause-counted g c = c.push_data_to_server.ensures.counted

pub returns-in-DataToClient-clause-counted : goal.returns-in-DataToClient-clause-counted
returns-in-DataToClient-clause-counted g c = c.push_data_to_client.ensures.counted
