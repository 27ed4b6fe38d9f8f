use Rattle.ftp_client.specs.Counted.{counted_of}
use Rattle.ftp_client.proofs.FitLemmas.{kept, uploaded}
use Rattle.ftp_client.proofs.near.ClientNear.begin_upload.Goals as goal

pub invariant_of-self : goal.invariant_of-self
invariant_of-self g c = record { fit = kept _ _ g.F.ClientTransfer.flow c.args.self.now.counted c.begin_upload.new.self c.args.self.now.fit (λ near. uploaded (counted_of g.F.ClientTransfer.flow c.args.self.now.counted) (counted_of g.F.ClientTransfer.flow c.begin_upload.new.self) c.args.texts.now c.args.how near c.begin_upload.ensures.begun c.begin_upload.ensures.busy c.begin_upload.ensures.none) }

pub invariant_of-self-else-begin_upload : goal.invariant_of-self-else-begin_upload
invariant_of-self-else-begin_upload g c = record { fit = kept _ _ g.F.ClientTransfer.flow c.args.self.now.counted c.begin_upload.new.self c.args.self.now.fit (λ near. uploaded (counted_of g.F.ClientTransfer.flow c.args.self.now.counted) (counted_of g.F.ClientTransfer.flow c.begin_upload.new.self) c.args.texts.now c.args.how near c.begin_upload.ensures.begun c.begin_upload.ensures.busy c.begin_upload.ensures.none) }
