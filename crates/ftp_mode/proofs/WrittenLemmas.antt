-- The writer gives the one text of a whole file, in each mode, type and structure.
use Rattle.std.proofs.Common.{◌≡◌, ℕ, ◌+◌, ◌<◌, ◌^◌, List, [], ◌∷◌, length, refl, ap, ◌∙◌, arith}
use Rattle.ftp_pieces.specs.Machine.{gives}
use Rattle.ftp_repr.specs.Signs.{Sign, octet, signs_of}
use Rattle.ftp_settings.specs.Representation.{Form}
use Rattle.ftp_settings.specs.declared.representation.Structure.{Structure}
use Rattle.ftp_settings.specs.declared.representation.Structure.TheVariants.{File, Record}
use Rattle.ftp_repr.proofs.SignLemmas.{IsWhole, whole-signs_of, signs_of-cons}
use Rattle.ftp_settings.specs.declared.representation.Mode.{Mode}
use Rattle.ftp_settings.specs.declared.representation.Mode.TheVariants.{Stream, Block as Blocks}
use Rattle.ftp_mode.specs.Block.{marked_text}
use Rattle.ftp_mode.specs.Wire.{wire_text, wire, image_file}
use Rattle.ftp_mode.specs.Writing.{blank_writing, writer, with_marks, unmarked, never}
use Rattle.ftp_mode.proofs.WriterLemmas.{gives-copying, gives-free, gives-filling}
use Rattle.ftp_mode.proofs.MarkLemmas.{plain_row, gives-marked}

pub writes_text : (m : Mode) (s : Structure) (ss : List Sign) → IsWhole ss → gives writer (blank_writing m s) ss ≡ wire_text m s ss
writes_text Stream File ss h = gives-copying ss
writes_text Stream Record ss h = gives-free ss
writes_text Blocks File ss h = gives-filling unmarked [] ss (record { due = refl; same = refl }) (omega arith) h
writes_text Blocks Record ss h = gives-filling never [] ss (record { due = refl; same = refl }) (omega arith) h

pub writes_wire : (m : Mode) (f : Form) (b : List ℕ) → gives writer (blank_writing m f.structure) (signs_of f b) ≡ wire m f b
writes_wire m f b = writes_text m f.structure (signs_of f b) (whole-signs_of f b)

pub image_signs : (b : List ℕ) → signs_of image_file b ≡ plain_row b
image_signs [] = refl
image_signs (c ∷ b) = signs_of-cons image_file c b ∙ ap (λ l. octet c ∷ l) (image_signs b)

pub writes_marked : (from : ℕ) (b : List ℕ) → from + length b < 2 ^ 64
    → gives writer (with_marks from (blank_writing Blocks File)) (signs_of image_file b) ≡ marked_text from b
writes_marked from b fits = ap (gives writer (with_marks from (blank_writing Blocks File))) (image_signs b) ∙ gives-marked from b fits
