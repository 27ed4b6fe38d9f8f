-- How many octets go over the wire, piece by piece.
use Rattle.std.proofs.Common.{◌≡◌, ℕ, ◌+◌, List, [], ◌∷◌, ◌++◌, length, take, drop, refl, ap, sym, ◌∙◌, suc, length-append}
use Rattle.std.specs.List.{flat_map}
use Rattle.std.proofs.lemmas.Grind.{flat_map-append}
use Rattle.std.proofs.Math.Seq.{take-add}
use Rattle.ftp_repr.specs.Ascii.{asc, ascii_octet}
use Rattle.ftp_repr.specs.Signs.{wire_octets, wire_row}
use Rattle.ftp_settings.specs.declared.representation.Kind.{Kind}
use Rattle.ftp_settings.specs.declared.representation.Kind.TheVariants.{Ascii, Image}
use Rattle.ftp_direct.specs.Direct.{size_in}

image_len : (octets : List ℕ) → length (flat_map (wire_octets Image) octets) ≡ length octets
image_len [] = refl
image_len (octet ∷ octets) = ap suc (image_len octets)

pub size_piece : (kind : Kind) (piece : List ℕ) → length (wire_row kind piece) ≡ size_in kind piece
size_piece Ascii piece = refl
size_piece Image piece = image_len piece

size_append : (kind : Kind) (one other : List ℕ) → size_in kind (one ++ other) ≡ size_in kind one + size_in kind other
size_append Ascii one other = ap length (flat_map-append ascii_octet one other) ∙ length-append (asc one) (asc other)
size_append Image one other = length-append one other

pub size_step : (kind : Kind) (file piece : List ℕ) (at : ℕ) → piece ≡ take (length piece) (drop at file)
    → size_in kind (take (at + length piece) file) ≡ size_in kind (take at file) + length (wire_row kind piece)
size_step kind file piece at is =
    ap (size_in kind) (take-add at (length piece) file) ∙ size_append kind (take at file) (take (length piece) (drop at file))
    ∙ ap (λ p. size_in kind (take at file) + size_in kind p) (sym is) ∙ ap (λ n. size_in kind (take at file) + n) (sym (size_piece kind piece))
