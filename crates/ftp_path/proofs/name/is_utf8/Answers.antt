use Rattle.std.specs.Cmp.{both_ways}
use Rattle.std.proofs.lemmas.Str.{IsUtf8-from_is_utf8, is_utf8-from_IsUtf8}
use Rattle.ftp_path.proofs.name.is_utf8.Goals as goal

pub returns : goal.returns
returns c =
    both_ways _ _ (λ told. is_utf8-from_IsUtf8 c.args.octets.now (c.is_utf8.ensures.0 told))
    (λ valid. c.is_utf8.ensures.1 (IsUtf8-from_is_utf8 c.args.octets.now valid))
