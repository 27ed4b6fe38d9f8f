use Rattle.std.proofs.Common.{refl}
use Rattle.std.specs.Char.{encode_utf8}
use Rattle.std.specs.Str.{chars, is_utf8}
use Rattle.tool_listing.proofs.entries.rows.entries_of_list.Goals as goal

pub returns : goal.returns
unfolding chars encode_utf8 is_utf8
returns c = (refl, refl)
