use Rattle.std.proofs.Common.{◌∙◌}
use Rattle.ftp_path.proofs.KeyLemmas.{goes_on-within}
use Rattle.ftp_path.proofs.key.is_within.Goals as goal

pub returns : goal.returns
returns c = c.goes_on.ensures ∙ goes_on-within c.args.above.now c.args.key.now c.requires.above c.requires.key
