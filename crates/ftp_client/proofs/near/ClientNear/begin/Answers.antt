use Rattle.ftp_client.specs.Counted.{counted_of}
use Rattle.ftp_client.proofs.FitLemmas.{kept, started}
use Rattle.ftp_client.proofs.near.ClientNear.begin.Goals as goal

pub invariant_of-self : goal.invariant_of-self
invariant_of-self g c = record { fit = kept _ _ g.F.ClientTransfer.flow c.args.self.now.counted c.begin.new.self c.args.self.now.fit (λ near. started (counted_of g.F.ClientTransfer.flow c.args.self.now.counted) (counted_of g.F.ClientTransfer.flow c.begin.new.self) c.args.op.now near c.begin.ensures.begun c.begin.ensures.busy c.begin.ensures.none) }

pub invariant_of-self-else-begin : goal.invariant_of-self-else-begin
invariant_of-self-else-begin g c = record { fit = kept _ _ g.F.ClientTransfer.flow c.args.self.now.counted c.begin.new.self c.args.self.now.fit (λ near. started (counted_of g.F.ClientTransfer.flow c.args.self.now.counted) (counted_of g.F.ClientTransfer.flow c.begin.new.self) c.args.op.now near c.begin.ensures.begun c.begin.ensures.busy c.begin.ensures.none) }
