use Rattle.std.proofs.Common.{arith, get_or}
use Rattle.std.proofs.lemmas.Bool.{ne_eqb}
use Rattle.ftp_repr.proofs.LendLemmas.{feed_lends, lone_lends}
use Rattle.ftp_repr.proofs.receiver.Receiver.next_held.Goals as goal

pub returns-then-first-eq10 : goal.returns-then-first-eq10
returns-then-first-eq10 c =
    feed_lends c.args.self.now c.next_run-run.new.self c.args.piece.now c.next_run-run.result c.requires.some
    (omega (arith, c.if-first-eq10.true)) c.requires.ascii c.requires.held c.next_run-run.ensures.lends

pub returns : goal.returns
returns c =
    let first = get_or c.args.piece.now 0 0 in
    lone_lends c.args.self.now c.next_run-run.new.self c.args.piece.now c.next_run-run.result c.requires.some
    (ne_eqb first 10 (λ q. omega (arith, q, c.if-first-eq10.false))) (ne_eqb first 0 (λ q. omega (arith, q, c.if-first-eq0.false)))
    c.requires.ascii c.requires.held c.next_run-run.ensures.plain c.next_run-run.ensures.lends
