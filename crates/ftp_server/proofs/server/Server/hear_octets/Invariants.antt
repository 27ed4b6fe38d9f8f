use Rattle.std.proofs.Common.{◌≡◌, take}
use Rattle.ftp_server.specs.HearsTo.{HearsTo, TellsTo}
use Rattle.ftp_server.specs.Server.{OnCourse, view_of}
use Rattle.ftp_tree.specs.Change.{IsSteady}
use Rattle.ftp_server.proofs.server.Server.hear_octets.Given as goal

abbrev pub invariant-loop-octet : goal.invariant-loop-octet
invariant-loop-octet g l =
    let failures = g.T.Tree.failures in let view = view_of g.T.Tree.table g.J.ServerTransfer.view in
    record {
      count : l.count ≡ l.octet-index;
      heard : OnCourse failures l.fn.self l.self → HearsTo (take l.octet-index l.piece) (view l.fn.self) (view l.self);
      told : OnCourse failures l.fn.self l.self → TellsTo (take l.octet-index l.piece) (view l.fn.self) l.self.heard;
      steady : IsSteady (failures l.fn.self.session.tree) (failures l.self.session.tree);
      refusals : l.self.refusals ≡ l.fn.self.refusals;
      first : l.octet-index ≡ 0 → view l.self ≡ view l.fn.self;
    }
