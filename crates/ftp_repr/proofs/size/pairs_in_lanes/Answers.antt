use Rattle.std.proofs.Common.{◌≡◌, length, ◌∙◌, arith}
use Rattle.std.specs.List.{count_by}
use Rattle.std.proofs.lemmas.Simd.{length-chunk}
use lib.Lanes.{chunk}
use Rattle.ftp_repr.proofs.LaneLemmas.{is, asc_count, asc_most, lanes_count}
use Rattle.ftp_repr.proofs.size.pairs_in_lanes.Goals as goal

pub returns : goal.returns
returns c =
    let v = chunk c.args.at 32 c.args.piece.now in
    let long : length v ≡ 32 = length-chunk c.args.at 32 c.args.piece.now c.requires in
    let feeds : c.from.result ≡ count_by (is 10) v = c.from.ensures ∙ lanes_count v 10 long in
    let returns : c.from-2.result ≡ count_by (is 13) v = c.from-2.ensures ∙ lanes_count v 13 long in
    record { count = omega (arith, asc_count v, long, feeds, returns); within = omega (arith, asc_most v, long, feeds, returns) }
