use Rattle.std.proofs.Common.{true, false}
use Rattle.tool_dialogue.specs.Converses.{most_of}
use Rattle.tool_dialogue.proofs.Conversing.{ends_as, off_as}
use Rattle.tool_dialogue.proofs.dialogues.dialogue.Goals as goal

pub returns-in-Ok-true-clause-done : goal.returns-in-Ok-true-clause-done
returns-in-Ok-true-clause-done g c = λ done.
    ends_as c.most_of.result (most_of c.args.piece) _ _ _ _ c.answer_all.result c.in-Ok-true.field-0 true c.in-Ok-true.is c.in-Ok-true.field-0-test
    c.most_of.ensures.is c.answer_all.ensures

pub returns-in-Ok-false-clause-done : goal.returns-in-Ok-false-clause-done
returns-in-Ok-false-clause-done g c = λ done.
    ends_as c.most_of.result (most_of c.args.piece) _ _ _ _ c.answer_all.result c.in-Ok-false.field-0 false c.in-Ok-false.is c.in-Ok-false.field-0-test
    c.most_of.ensures.is c.answer_all.ensures

pub returns-in-Err-clause-failed : goal.returns-in-Err-clause-failed
returns-in-Err-clause-failed g c = λ failed.
    off_as c.most_of.result (most_of c.args.piece) _ _ _ _ c.answer_all.result c.in-Err.field-0 c.in-Err.is c.most_of.ensures.is c.answer_all.ensures
