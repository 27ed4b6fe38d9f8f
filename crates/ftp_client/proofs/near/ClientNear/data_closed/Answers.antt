use Rattle.ftp_client.proofs.FitLemmas.{kept}
use Rattle.ftp_client.proofs.near.ClientNear.data_closed.Goals as goal

pub invariant_of-self : goal.invariant_of-self
invariant_of-self g c = record { fit = kept _ _ g.F.ClientTransfer.flow c.args.self.now.counted c.data_closed.new.self c.args.self.now.fit (λ near. near.closed c.data_closed.ensures) }
