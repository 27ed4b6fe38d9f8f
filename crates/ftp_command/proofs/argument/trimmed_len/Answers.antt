use Rattle.std.proofs.Common.{◌≡◌, ◌-◌, ◌∙◌, true, false, get_or, sym, arith, rules, tests}
use Rattle.ftp_command.specs.Argument.{is_space}
use Rattle.ftp_command.proofs.ArgumentLemmas.{trimmed-less, trimmed-stays}
use Rattle.ftp_command.proofs.argument.trimmed_len.Goals as goal

pub loop-end-preserved : goal.loop-end-preserved
loop-end-preserved c =
    let space : is_space (get_or c.args.text.now (c.loop-end.end - 1) 0) ≡ true = search (rules, tests) in
    (omega arith, trimmed-less c.args.text.now c.loop-end.end (omega arith) (omega arith) space ∙ c.loop-end.invariant.1)

pub returns-else-text-end-eq32-clause-front : goal.returns-else-text-end-eq32-clause-front
returns-else-text-end-eq32-clause-front c =
    let space : is_space (get_or c.args.text.now (c.loop-end.end - 1) 0) ≡ false = search (rules, tests) in
    sym (trimmed-stays c.args.text.now c.loop-end.end (omega arith) (omega arith) space) ∙ c.loop-end.invariant.1
