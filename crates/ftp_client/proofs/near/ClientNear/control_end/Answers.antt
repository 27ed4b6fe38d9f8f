use Rattle.ftp_client.proofs.FitLemmas.{kept}
use Rattle.ftp_client.proofs.near.ClientNear.control_end.Goals as goal

pub invariant_of-self : goal.invariant_of-self
invariant_of-self g c = record { fit = kept _ _ g.F.ClientTransfer.flow c.args.self.now.counted c.control_end.new.self c.args.self.now.fit (λ near. near.control_ended c.control_end.ensures.now) }

pub invariant_of-self-in_default : goal.invariant_of-self-in_default
invariant_of-self-in_default g c = record { fit = kept _ _ g.F.ClientTransfer.flow c.args.self.now.counted c.control_end.new.self c.args.self.now.fit (λ near. near.control_ended c.control_end.ensures.now) }
