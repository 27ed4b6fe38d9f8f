use Rattle.std.proofs.Common.{nat_le, length, rules}
use Rattle.std.proofs.lemmas.Iterator.Search.{all_from_yields_List}
use Rattle.std.proofs.lemmas.Iterator.Splits.{YieldsList-from_slice_split}
use Rattle.ftp_path.specs.Path.{is_slash}
use Rattle.ftp_path.proofs.walk.are_short.Goals as goal

pub returns : goal.returns
returns c =
    all_from_yields_List (λ name. nat_le (length name) 255) _ _ c.all.result c.all.ensures.ran
    (YieldsList-from_slice_split _ is_slash c.args.octets.now c.split.ensures.rest c.split.ensures.done c.split.ensures.closure (search rules))
    (search rules)
