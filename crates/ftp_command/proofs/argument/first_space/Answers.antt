use Rattle.std.proofs.Common.{arith, rules, tests}
use Rattle.ftp_command.proofs.ArgumentLemmas.{first_space_is, no_space_is}
use Rattle.ftp_command.proofs.argument.first_space.Goals as goal

pub returns-then-c-eq32-clause-place : goal.returns-then-c-eq32-clause-place
returns-then-c-eq32-clause-place c =
    first_space_is c.args.text.now c.loop-i.i (omega arith) c.loop-i.invariant (λ _. search (rules, tests))

pub returns-clause-place : goal.returns-clause-place
returns-clause-place c = no_space_is c.args.text.now c.loop-i.i (omega arith) c.loop-i.invariant
