-- What is written, cut at each LF, is the lines that are written.
use Rattle.std.proofs.Common.{◌≡◌, ℕ, ◌+◌, ◌<◌, ◌/◌, ◌%◌, Bool, true, false, if◌then◌else◌, List, [], ◌∷◌, length, All, refl, ap, ◌∙◌, ne_eqb, arith}
use Rattle.std.proofs.lemmas.List.Elements.{All-nil, All-cons, All-head, All-tail}
use Rattle.std.proofs.lemmas.List.Splits.{slice_split_at, slice_split_none}
use Rattle.ftp_reply.specs.Lines.{Text, IsSingleLine, cut_at_lf, is_lf, joined}
use Rattle.ftp_reply.specs.Reply.{IsCode, begins_with_digits, last_line, opening_line, padded, written_after, written}

-- lines without an LF that are joined are cut into the same lines again
pub joined_cut : (line : Text) (more : List Text) → All IsSingleLine (line ∷ more) → cut_at_lf (joined (line ∷ more)) ≡ line ∷ more
joined_cut line [] all = slice_split_none is_lf line (All-head IsSingleLine line [] all)
joined_cut line (next ∷ more) all =
    slice_split_at is_lf line 10 (joined (next ∷ more)) (All-head IsSingleLine line (next ∷ more) all) refl
    ∙ ap (λ (lines : List Text). line ∷ lines) (joined_cut next more (All-tail IsSingleLine line (next ∷ more) all))

above : (n : ℕ) → is_lf (48 + n) ≡ false
above n = ne_eqb (48 + n) 10 (λ e. omega (arith, e))

-- a code, an octet that is no LF, and a text of one line are one line
marked_line : (code mark : ℕ) (text : Text) → is_lf mark ≡ false → IsSingleLine text
    → IsSingleLine ((48 + code / 100) ∷ (48 + code / 10 % 10) ∷ (48 + code % 10) ∷ mark ∷ text)
marked_line code mark text other line =
    let P : ℕ → Type 0 = λ octet. is_lf octet ≡ false in
    let behind : Text = (48 + code % 10) ∷ mark ∷ text in
    let ones = All-cons P (48 + code % 10) (mark ∷ text) (above (code % 10)) (All-cons P mark text other line) in
    let tens = All-cons P (48 + code / 10 % 10) behind (above (code / 10 % 10)) ones in
    All-cons P (48 + code / 100) ((48 + code / 10 % 10) ∷ behind) (above (code / 100)) tens

padded_line : (text : Text) → IsSingleLine text → IsSingleLine (padded text)
padded_line text line = by_digits (begins_with_digits text)
  where
    by_digits : (b : Bool) → IsSingleLine (if b then 32 ∷ text else text)
    by_digits true = All-cons (λ octet. is_lf octet ≡ false) 32 text refl line
    by_digits false = line

after_lines : (code : ℕ) (line : Text) (more : List Text) → All IsSingleLine (line ∷ more) → All IsSingleLine (written_after code (line ∷ more))
after_lines code line [] all = All-cons IsSingleLine (last_line code line) [] (marked_line code 32 line refl (All-head IsSingleLine line [] all)) (All-nil IsSingleLine)
after_lines code line (next ∷ more) all =
    All-cons IsSingleLine (padded line) (written_after code (next ∷ more)) (padded_line line (All-head IsSingleLine line (next ∷ more) all))
    (after_lines code next more (All-tail IsSingleLine line (next ∷ more) all))

pub written_cut : (code : ℕ) (lines : List Text) → IsCode code → 0 < length lines → All IsSingleLine lines → cut_at_lf (joined (written code lines)) ≡ written code lines
written_cut code [] is some all = absurd (omega arith)
written_cut code (text ∷ []) is some all =
    joined_cut (last_line code text) [] (All-cons IsSingleLine (last_line code text) [] (marked_line code 32 text refl (All-head IsSingleLine text [] all)) (All-nil IsSingleLine))
written_cut code (first ∷ next ∷ more) is some all =
    joined_cut (opening_line code first) (written_after code (next ∷ more))
    (All-cons IsSingleLine (opening_line code first) (written_after code (next ∷ more)) (marked_line code 45 first refl (All-head IsSingleLine first (next ∷ more) all))
    (after_lines code next more (All-tail IsSingleLine first (next ∷ more) all)))
