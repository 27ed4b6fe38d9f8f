use Rattle.std.proofs.Common.{None, arith}
use Rattle.std.proofs.lemmas.Str.Pattern.{strip_prefix_char}
use Rattle.tool_location.proofs.UrlLemmas.{no_bracket}
use Rattle.tool_location.proofs.url_place.without_brackets.Goals as goal

pub returns-in-None : goal.returns-in-None
returns-in-None c = no_bracket c.args.text.now (strip_prefix_char 91 c.args.text.now None c.in-None.ensures.cases (omega arith))
