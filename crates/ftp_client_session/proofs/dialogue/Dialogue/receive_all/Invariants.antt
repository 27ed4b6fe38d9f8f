use Rattle.std.proofs.Common.{◌≡◌, ◌-◌, ◌≤◌, true, length, take}
use Rattle.ftp_client_model.specs.Calls.{may_receive, receives}
use Rattle.ftp_client_session.specs.Client.{view_of}
use Rattle.ftp_client_session.proofs.dialogue.Dialogue.receive_all.Given as goal

abbrev pub invariant-loop-at : goal.invariant-loop-at
invariant-loop-at g l = record {
  within : l.at ≤ length l.piece;
  standing : l.self.standing ≡ l.fn.self.standing;
  view : view_of g.F.ClientTransfer.flow l.self ≡ receives (view_of g.F.ClientTransfer.flow l.fn.self) (take l.at l.piece);
  may : may_receive (view_of g.F.ClientTransfer.flow l.self) ≡ true;
}

abbrev pub decreases-loop-at : goal.decreases-loop-at
decreases-loop-at g l = length l.piece - l.at
