-- What is written is said; all lines so far.
use Rattle.std.proofs.Common.{◌≡◌, ℕ, ◌+◌, ◌<◌, ◌/◌, ◌%◌, Bool, true, false, if◌then◌else◌, inl, inr, List, [], ◌∷◌, ◌++◌, length, All, refl, ap, sym, ◌∙◌, append_assoc, append-nil, arith}
use Rattle.std.specs.Char.{is_ascii_digit}
use Rattle.std.proofs.lemmas.Bool.Decides.{nat_tests}
use Rattle.std.proofs.lemmas.List.Elements.{All-head, All-tail, All-weaker}
use Rattle.ftp_reply.specs.Lines.{Text, AreWithin}
use Rattle.ftp_reply.specs.Reply.{IsCode, last_line, opening_line, IsLastLine, Says, begins_with_digits, padded, written_after, written, but_last, HasPlainLines}
use Rattle.ftp_reply.specs.Reader.{AreReplies}

-- the lines after the first as they are written, cut before the last
pub record IsCut (code : ℕ) (xs : List Text) : Type 0 where
  pub last : Text
  pub lines_are : xs ≡ but_last xs ++ last ∷ []
  pub written_are : written_after code xs ≡ but_last xs ++ last_line code last ∷ []

-- a line that doesn't begin with three digits is written as it is
pub plain_as_is : (line : Text) → begins_with_digits line ≡ false → padded line ≡ line
plain_as_is line plain = ap (λ (b : Bool). if b then 32 ∷ line else line) plain

pub cut_after : (code : ℕ) (x : Text) (xs : List Text) → All (λ line. begins_with_digits line ≡ false) (but_last (x ∷ xs)) → IsCut code (x ∷ xs)
cut_after code x [] plain = record { last = x; lines_are = refl; written_are = refl }
cut_after code x (y ∷ ys) plain =
    let rest = cut_after code y ys (All-tail (λ line. begins_with_digits line ≡ false) x (but_last (y ∷ ys)) plain) in
    let here = plain_as_is x (All-head (λ line. begins_with_digits line ≡ false) x (but_last (y ∷ ys)) plain) in
    record {
      last = rest.last;
      lines_are = ap (λ (ls : List Text). x ∷ ls) rest.lines_are;
      written_are = ap (λ (l : Text). l ∷ written_after code (y ∷ ys)) here ∙ ap (λ (ls : List Text). x ∷ ls) rest.written_are;
    }

digit : (d : ℕ) → d < 10 → is_ascii_digit (48 + d) ≡ true
digit d low = grind (arith, nat_tests)

-- a last line begins with three digits
last_has_digits : (code : ℕ) (text : Text) → IsCode code → begins_with_digits (last_line code text) ≡ true
last_has_digits code text is =
    let a = digit (code / 100) (omega arith) in
    let b = digit (code / 10 % 10) (omega arith) in
    let d = digit (code % 10) (omega arith) in
    rw (a, b, d) refl

plain_goes_on : (code : ℕ) (line : Text) → IsCode code → begins_with_digits line ≡ false → ¬ IsLastLine code line
plain_goes_on code line is plain = λ last.
    let digits : begins_with_digits line ≡ true = ap begins_with_digits last.1 ∙ last_has_digits code last.0 is in
    cc

pub written_says : (code : ℕ) (lines : List Text) → IsCode code → 0 < length lines → AreWithin lines → HasPlainLines lines → Says (written code lines) code lines
written_says code [] is some within plain = absurd (omega arith)
written_says code (text ∷ []) is some within plain = record {
  whole = inl (record { text = text; code_is = is; lines_are = refl; heard_is = inl refl });
  within = within;
}
written_says code (first ∷ next ∷ more) is some within plain =
    let cut = cut_after code next more plain in
    let between = but_last (next ∷ more) in
    record {
      whole = inr (record {
        begun = opening_line code first ∷ between;
        texts = first ∷ between;
        last = cut.last;
        begins = record {
          first = first;
          between = between;
          code_is = is;
          lines_are = refl;
          heard_is = refl;
          goes_on = All-weaker (λ line. begins_with_digits line ≡ false) (λ line. ¬ IsLastLine code line) (λ line p. plain_goes_on code line is p) between plain;
        };
        lines_are = ap (λ (ls : List Text). first ∷ ls) cut.lines_are;
        heard_is = ap (λ (ls : List Text). opening_line code first ∷ ls) cut.written_are;
      });
      within = within;
    }

-- one line more behind all of them goes to the rest
pub heard_more : (all : List Text) (replies : List (ℕ × List Text)) (rest : List Text) (line : Text) → AreReplies all replies rest → AreReplies (all ++ line ∷ []) replies (rest ++ line ∷ [])
heard_more all [] rest line e = ap (λ (ls : List Text). ls ++ line ∷ []) e
heard_more all (reply ∷ replies) rest line h =
    (h.0, h.1 ++ line ∷ [], ap (λ (ls : List Text). ls ++ line ∷ []) h.2 ∙ append_assoc h.0 h.1 (line ∷ []), h.3, heard_more h.1 replies rest line h.4)

-- a rest that says a reply is one reply more
pub heard_reply : (all : List Text) (replies : List (ℕ × List Text)) (rest : List Text) (code : ℕ) (lines : List Text) → Says rest code lines → AreReplies all replies rest → AreReplies all (replies ++ (code, lines) ∷ []) []
heard_reply all [] rest code lines says e = (rest, [], e ∙ sym (append-nil rest), says, refl)
heard_reply all (reply ∷ replies) rest code lines says h = (h.0, h.1, h.2, h.3, heard_reply h.1 replies rest code lines says h.4)
