use Rattle.std.proofs.Common.{◌∙◌}
use Rattle.ftp_path.proofs.KeyLemmas.{ranked-cmp}
use Rattle.ftp_path.proofs.key.order.Goals as goal

pub returns : goal.returns
returns c = c.ranked_order.ensures ∙ ranked-cmp c.args.key.now c.args.other.now c.requires.key c.requires.other
