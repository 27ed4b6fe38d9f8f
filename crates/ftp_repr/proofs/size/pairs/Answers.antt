use Rattle.std.proofs.Common.{◌≡◌, List, ℕ, ◌+◌, length, take, drop, ap, arith}
use Rattle.ftp_repr.specs.Ascii.{asc}
use Rattle.ftp_repr.proofs.SkipLemmas.{goes_cut, goes_whole}
use Rattle.ftp_repr.proofs.size.pairs.Goals as goal

pub loop-at-preserved : goal.loop-at-preserved
loop-at-preserved c =
    let piece = c.args.piece.now in
    let at = c.loop-at.at in
    let more : length (asc (take (at + 32) piece)) ≡ length (asc (take at piece)) + length (asc (take 32 (drop at piece))) = goes_cut piece at 32 (omega arith) in
    record { within = omega arith; count = omega (arith, more, c.loop-at.invariant.count, c.pairs_in_lanes-count.ensures.count); few = omega (arith, c.pairs_in_lanes-count.ensures.within) }

pub returns-clause-count : goal.returns-clause-count
returns-clause-count c =
    let piece = c.args.piece.now in
    let at = c.loop-at.at in
    let all : length (asc piece) ≡ length (asc (take at piece)) + length (asc (drop at piece)) = goes_whole piece at in
    let rest = ap (λ (l : List ℕ). length (asc l)) c.split_at.ensures.back in
    omega (arith, all, rest, c.split_at.ensures.back_len, c.loop-at.invariant.count, c.pairs_one_by_one.ensures.count)
