use Rattle.std.proofs.Common.{◌≡◌, length, ap, subst, sym}
use Rattle.ftp_repr.specs.Signs.{wire_row}
use Rattle.ftp_settings.specs.declared.representation.Kind.{Kind}
use Rattle.ftp_repr.proofs.ContentLemmas.{image_row}
use Rattle.ftp_repr.proofs.size.wire_size.Goals as goal

pub returns-in-Image : goal.returns-in-Image
returns-in-Image c =
    let piece = c.args.piece.now in
    let P : Kind → Type 0 = λ k. length piece ≡ length (wire_row k piece) in
    record { size = subst P (sym c.in-Image.is) (sym (ap length (image_row piece))) }
