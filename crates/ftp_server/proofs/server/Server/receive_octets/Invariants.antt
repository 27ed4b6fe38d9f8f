use Rattle.std.proofs.Common.{◌≡◌, ◌≤◌, ◌-◌, None, length, take}
use Rattle.ftp_server_model.specs.Heard.{heard_received}
use Rattle.ftp_server.specs.Data.{ReceivesTo}
use Rattle.ftp_server.specs.Server.{OnCourse, view_of}
use Rattle.ftp_tree.specs.Change.{IsSteady}
use Rattle.ftp_server.proofs.server.Server.receive_octets.Given as goal

abbrev pub invariant-loop-count : goal.invariant-loop-count
invariant-loop-count g l =
    let failures = g.T.Tree.failures in let view = view_of g.T.Tree.table g.J.ServerTransfer.view in
    record {
      count : l.count ≤ length l.piece;
      taken : OnCourse failures l.fn.self l.self → ReceivesTo (take l.count l.piece) (view l.fn.self) (view l.self);
      told : OnCourse failures l.fn.self l.self → l.self.heard ≡ heard_received None (view l.fn.self) (take l.count l.piece);
      steady : IsSteady (failures l.fn.self.session.tree) (failures l.self.session.tree);
      refusals : l.self.refusals ≡ l.fn.self.refusals;
      first : l.count ≡ 0 → view l.self ≡ view l.fn.self;
    }

abbrev pub decreases-loop-count : goal.decreases-loop-count
decreases-loop-count g l = length l.piece - l.count
