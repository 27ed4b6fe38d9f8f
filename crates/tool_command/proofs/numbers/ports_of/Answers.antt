use Rattle.std.proofs.Common.{Some, arith}
use Rattle.std.proofs.lemmas.Str.Pattern.{split_once_first}
use Rattle.tool_command.proofs.PortLemmas.{no_first}
use Rattle.tool_command.proofs.numbers.ports_of.Goals as goal

pub returns-in_err-first-2-clause-none : goal.returns-in_err-first-2-clause-none
returns-in_err-first-2-clause-none c =
    let word = c.args.word.now in
    let parts = split_once_first 45 word (Some (c.in_ok-first.first, c.in_ok-first.last)) c.in_ok-first.ensures.cases (omega arith) in
    no_first word c.in_ok-first.first.now c.from_residual-in_err-first-2.result parts.1 c.in_err-first-2.ensures.none
