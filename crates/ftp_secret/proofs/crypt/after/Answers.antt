use Rattle.ftp_secret.specs.Hashing.{octets_of, sequence}
use Rattle.ftp_secret.proofs.Rounds.{after_more, after_none}
use Rattle.ftp_secret.proofs.crypt.after.Goals as goal

pub rounds-init : goal.rounds-init
rounds-init c = after_none c.args.method (sequence c.args.p.now) (sequence c.args.s.now) (octets_of c.args.a)

pub rounds-preserved : goal.rounds-preserved
rounds-preserved c =
    after_more c.args.method (sequence c.args.p.now) (sequence c.args.s.now) (octets_of c.args.a) (octets_of c.rounds.last)
    (octets_of c.round-last.result) c.rounds.number c.round-last.ensures c.rounds.invariant
