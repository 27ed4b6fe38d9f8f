use Rattle.ftp_client.specs.Calls.{client_of}
use Rattle.ftp_server.specs.Server.{view_of}
use Rattle.tool_pair.specs.Begun.{begun}
use Rattle.tool_pair.proofs.Starting.{starts}
use Rattle.tool_pair.proofs.ends.world_of.Goals as goal

pub new-requires-3 : goal.new-requires-3
new-requires-3 g c = record {
  fair = starts (begun c.args.of.login.user c.args.of.login.pass c.args.of.accounts (g.T.Tree.table c.args.of.tree) c.args.of.near_host c.args.of.far_host)
      (client_of g.C.ClientTransfer.flow c.in-Ok.client).view (view_of g.T.Tree.table g.J.ServerTransfer.view c.in-Ok-new.server)
      c.args.of.can.fair c.in-Ok.ensures.begun c.in-Ok-new.ensures.begun;
}
