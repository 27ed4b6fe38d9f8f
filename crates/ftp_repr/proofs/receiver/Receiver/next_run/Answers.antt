use Rattle.std.proofs.Common.{◌∙◌, arith}
use Rattle.ftp_repr.proofs.LendLemmas.{whole_lends, held_lends}
use Rattle.ftp_repr.proofs.receiver.Receiver.next_run.Goals as goal

pub returns-then-run-piece-clause-lends : goal.returns-then-run-piece-clause-lends
returns-then-run-piece-clause-lends c =
    whole_lends c.args.self.now c.args.piece.now c.before_return-run.result c.whole.result c.requires.ascii c.requires.settled c.before_return-run.ensures.run
    (omega (arith, c.if-run-piece.true)) c.whole.ensures.with_return (c.whole.ensures.octets ∙ c.split_at.ensures.front) c.whole.ensures.taken c.whole.ensures.rest

pub returns-clause-lends : goal.returns-clause-lends
returns-clause-lends c =
    let run = c.before_return-run.ensures.run in
    held_lends c.args.self.now c.args.piece.now c.before_return-run.result c.part.result c.requires.ascii c.requires.settled run
    (omega (arith, run.within, c.if-run-piece.false)) c.part.ensures.with_return (c.part.ensures.octets ∙ c.split_at.ensures.front) c.part.ensures.taken c.part.ensures.rest
