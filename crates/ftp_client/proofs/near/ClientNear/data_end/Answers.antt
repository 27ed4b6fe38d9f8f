use Rattle.ftp_client.proofs.FitLemmas.{kept}
use Rattle.ftp_client.proofs.near.ClientNear.data_end.Goals as goal

pub invariant_of-self : goal.invariant_of-self
invariant_of-self g c = record { fit = kept _ _ g.F.ClientTransfer.flow c.args.self.now.counted c.data_end.new.self c.args.self.now.fit (λ near. near.ended c.data_end.ensures.moved) }
