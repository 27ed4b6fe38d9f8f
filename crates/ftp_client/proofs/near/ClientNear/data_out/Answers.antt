use Rattle.ftp_client.proofs.FitLemmas.{kept}
use Rattle.ftp_client.proofs.near.ClientNear.data_out.Goals as goal

pub invariant_of-self : goal.invariant_of-self
invariant_of-self g c = record { fit = kept _ _ g.F.ClientTransfer.flow c.args.self.now.counted c.data_out.new.self c.args.self.now.fit (λ near. near.gave c.data_out.result c.data_out.ensures.now) }
