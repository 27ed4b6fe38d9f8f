use Rattle.std.proofs.Common.{arith}
use Rattle.ftp_client.proofs.FitLemmas.{kept}
use Rattle.ftp_client.proofs.near.ClientNear.listening.Goals as goal

pub invariant_of-self : goal.invariant_of-self
invariant_of-self g c = record { fit = kept _ _ g.F.ClientTransfer.flow c.args.self.now.counted c.listening.new.self c.args.self.now.fit (λ near. near.listens c.args.port (omega arith) c.listening.ensures.moved) }
