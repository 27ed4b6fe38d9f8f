use Rattle.std.proofs.Common.{length, take, ap, ◌∙◌, arith}
use Rattle.std.proofs.lemmas.List.{length-take-le}
use Rattle.ftp_repr.proofs.ContentLemmas.{image_row}
use Rattle.ftp_repr.proofs.skipping.skip_octets.Goals as goal

pub returns-then-left-len : goal.returns-then-left-len
returns-then-left-len c =
    let piece = c.args.piece.now in
    record {
      within = omega arith;
      goes = ap length (image_row (take c.args.left piece)) ∙ length-take-le c.args.left piece (omega arith);
    }

pub returns : goal.returns
returns c = (omega arith, omega (arith, ap length (image_row c.args.piece.now)))
