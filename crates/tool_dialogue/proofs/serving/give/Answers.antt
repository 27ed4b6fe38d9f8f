use Rattle.std.proofs.Common.{arith}
use Rattle.tool_dialogue.proofs.OctetLemmas.{gives, sure}
use Rattle.ftp_server.specs.Server.{server_of}
use Rattle.tool_dialogue.proofs.serving.give.Goals as goal

pub returns-clause-view : goal.returns-clause-view
returns-clause-view g c =
    let server = server_of g.T.Tree.table g.T.Tree.failures g.J.ServerTransfer.view in
    gives c.control_out.result (server c.args.server.now) (server c.control_out.new.self)
    (sure g.T.Tree.failures g.met.T.SureTree.never c.args.server.now c.control_out.new.self) c.control_out.ensures.now c.requires.none
    (omega (arith, c.control_out.ensures.most, c.requires.fits))
