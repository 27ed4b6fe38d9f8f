use Rattle.std.proofs.Common.{◌≢◌, arith}
use Rattle.std.specs.Prelude.{codes}
use Rattle.tool_command.proofs.AmountLemmas.{none_any}
use Rattle.tool_command.proofs.amount.most_of.Goals as goal

pub returns-clause-none : goal.returns-clause-none
returns-clause-none c =
    let other : c.args.word.now ≢ codes "any" = grind arith in
    none_any c.args.word.now c.amount_of.result other c.amount_of.ensures.none
