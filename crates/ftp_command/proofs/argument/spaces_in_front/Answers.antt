use Rattle.std.proofs.Common.{arith, rules, tests}
use Rattle.ftp_command.proofs.ArgumentLemmas.{all_spaces, spaces_are}
use Rattle.ftp_command.proofs.argument.spaces_in_front.Goals as goal

pub returns-then-c-ne32-clause-count : goal.returns-then-c-ne32-clause-count
returns-then-c-ne32-clause-count c =
    spaces_are c.args.text.now c.loop-i.i (omega arith) c.loop-i.invariant (λ _. search (rules, tests))

pub returns-clause-count : goal.returns-clause-count
returns-clause-count c = all_spaces c.args.text.now c.loop-i.i (omega arith) c.loop-i.invariant
