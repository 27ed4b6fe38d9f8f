use Rattle.std.proofs.Common.{find, ap, ◌∙◌}
use Rattle.tool_script.specs.Verb.{is_named}
use Rattle.tool_script.proofs.verb.verb_of.Goals as goal

pub returns : goal.returns
returns c = c.named_in.ensures ∙ ap (find (is_named c.args.word.now)) c.as_slice.ensures
