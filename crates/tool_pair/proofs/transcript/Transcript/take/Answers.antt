use Rattle.std.proofs.Common.{refl}
use Rattle.tool_pair.proofs.Telling.{client_told, data_told, server_told}
use Rattle.tool_pair.proofs.transcript.Transcript.take.Goals as goal

pub returns-in-ControlToServer : goal.returns-in-ControlToServer
returns-in-ControlToServer g c = record {
  tells = server_told c.put_lines.result c.args.queue c.args.self.now
      (record { wanted = c.args.self.now.wanted; lines = c.put_lines.new.lines; to_server = c.put_lines.new.part; to_client = c.args.self.now.to_client })
      c.args.octets.now c.in-ControlToServer.is c.if-not-self.false refl refl c.put_lines.ensures;
}

pub returns-in-ControlToClient : goal.returns-in-ControlToClient
returns-in-ControlToClient g c = record {
  tells = client_told c.put_lines-in-ControlToClient.result c.args.queue c.args.self.now
      (record {
        wanted = c.args.self.now.wanted;
        lines = c.put_lines-in-ControlToClient.new.lines;
        to_server = c.args.self.now.to_server;
        to_client = c.put_lines-in-ControlToClient.new.part;
      })
      c.args.octets.now c.in-ControlToClient.is c.if-not-self.false refl refl c.put_lines-in-ControlToClient.ensures;
}

pub returns-in-DataToServer : goal.returns-in-DataToServer
returns-in-DataToServer g c = record { tells = data_told c.args.queue c.args.self.now c.args.octets.now c.in-DataToServer.is c.if-not-self.false }
