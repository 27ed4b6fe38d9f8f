use Rattle.std.proofs.Common.{◌∙◌, arith}
use Rattle.tool_location.proofs.CutLemmas.{no_slash_last, slash_last}
use Rattle.tool_location.proofs.placing.last_part.Goals as goal

pub returns-in-Some : goal.returns-in-Some
returns-in-Some c =
    let cut = c.in-Some.ensures.cases in
    cut.4 ∙ slash_last c.args.path.now cut.0 cut.1 cut.2.0 cut.2.1 (omega arith)

pub returns-in-None : goal.returns-in-None
returns-in-None c = no_slash_last c.args.path.now c.in-None.ensures.cases
