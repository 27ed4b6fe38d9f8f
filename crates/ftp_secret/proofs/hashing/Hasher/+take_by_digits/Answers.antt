use Rattle.std.proofs.Common.{arith}
use Rattle.ftp_secret.proofs.Taking.{takes_digit, takes_no_digit}
use Rattle.ftp_secret.proofs.hashing.Hasher.+take_by_digits.Goals as goal

pub returns-then-number-eq0 : goal.returns-then-number-eq0
returns-then-number-eq0 t c = takes_no_digit c.args.self.now c.args.b.now c.args.password.now c.args.number (omega arith)

pub returns : goal.returns
returns t c =
    takes_digit c.args.self.now c.take.new.self c.take_by_digits.new.self c.args.b.now c.args.password.now c.chosen.result.now c.args.number
    c.if-number-eq0.false c.chosen.ensures c.take.ensures c.take_by_digits.ensures
