use Rattle.std.proofs.lemmas.Str.Pattern.{strip_suffix_char}
use Rattle.tool_command.proofs.amount.before.Goals as goal

pub returns : goal.returns
returns c = strip_suffix_char c.args.letter c.args.word.now c.strip_suffix.result c.strip_suffix.ensures.cases c.requires
