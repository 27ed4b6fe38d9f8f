use Rattle.std.proofs.Common.{refl}
use Rattle.percent_encoding.proofs.OnLiterals.{percent_encoding_on_literals}
use Rattle.url.proofs.OnLiterals.{url_on_literals}
use Rattle.tool_location.proofs.rows.urls.Goals as goal

pub returns : goal.returns
unfolding url_on_literals percent_encoding_on_literals
returns c = (refl, refl, refl, refl, refl, refl, refl)
