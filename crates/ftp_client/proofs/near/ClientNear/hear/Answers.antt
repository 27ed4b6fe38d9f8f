use Rattle.ftp_client.proofs.FitLemmas.{kept}
use Rattle.ftp_client.proofs.near.ClientNear.hear.Goals as goal

pub invariant_of-self : goal.invariant_of-self
invariant_of-self g c = record { fit = kept _ _ g.F.ClientTransfer.flow c.args.self.now.counted c.hear.new.self c.args.self.now.fit (λ near. near.hear c.args.piece.now c.hear.result c.hear.ensures.took) }
