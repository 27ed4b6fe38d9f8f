use Rattle.std.proofs.Common.{rules, tests, ◌∙◌}
use Rattle.std.proofs.lemmas.Iterator.{YieldsList-from_slice}
use Rattle.std.proofs.lemmas.Iterator.Search.{find_from_yields_List}
use Rattle.tool_script.specs.Verb.{is_named}
use Rattle.tool_script.proofs.verb.named_in.Goals as goal

pub returns : goal.returns
returns c =
    c.copied.ensures ∙ find_from_yields_List (is_named c.args.word.now) _ _ c.find.result c.find.ensures.ran (YieldsList-from_slice c.args.verbs.now cc) (λ x b q k. search (rules, tests))
