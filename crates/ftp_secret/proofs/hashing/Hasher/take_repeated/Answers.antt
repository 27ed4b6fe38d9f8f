use Rattle.ftp_secret.proofs.Taking.{takes_copy, takes_no_copy}
use Rattle.ftp_secret.proofs.hashing.Hasher.take_repeated.Goals as goal

pub times-init : goal.times-init
times-init c = takes_no_copy c.args.self.now c.args.piece.now

pub times-preserved : goal.times-preserved
times-preserved c =
    takes_copy c.args.self.now c.times.self c.take.new.self c.args.piece.now c.times.i c.times.invariant c.take.ensures
