use Rattle.std.proofs.Common.{◌≡◌, ◌++◌, drop, map, false, ap, sym, ◌∙◌}
use Rattle.ftp_repr.specs.Signs.{octet, signs_of}
use Rattle.ftp_repr.specs.Sending.{sender_form}
use Rattle.ftp_repr.proofs.SignLemmas.{signs_of_run}
use Rattle.ftp_repr.proofs.sender.Sender.next.Goals as goal

pub returns-then-run-gt0-clause-gives : goal.returns-then-run-gt0-clause-gives
returns-then-run-gt0-clause-gives c = λ more last.
    let going : c.args.self.now.ended ≡ false = c.if-self.false in
    let rest = drop c.plain_run-run.result c.args.piece.now ++ more in
    rw going (signs_of_run (sender_form c.args.self.now) c.args.piece.now more c.plain_run-run.result c.plain_run-run.ensures.run
    ∙ ap (λ l. map octet l ++ signs_of (sender_form c.args.self.now) rest) (sym c.split_at.ensures.front))
