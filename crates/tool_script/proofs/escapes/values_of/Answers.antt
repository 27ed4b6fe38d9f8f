use Rattle.std.proofs.Common.{refl}
use Rattle.tool_script.proofs.EscapeLemmas.{values_is}
use Rattle.tool_script.proofs.TableLemmas.{agree_below, are_same}
use Rattle.tool_script.proofs.escapes.values_of.Goals as goal

pub returns : goal.returns
unfolding agree_below are_same
returns c = values_is _ _ c.args.digits c.requires c.fits-digits.1 refl
