use Rattle.std.proofs.Common.{None, arith}
use Rattle.std.proofs.lemmas.Str.Pattern.{strip_prefix_char}
use Rattle.tool_location.proofs.UrlLemmas.{no_slash}
use Rattle.tool_location.proofs.url_place.behind_slash.Goals as goal

pub returns-in-None : goal.returns-in-None
returns-in-None c = no_slash c.args.path.now (strip_prefix_char 47 c.args.path.now None c.in-None.ensures.cases (omega arith))
