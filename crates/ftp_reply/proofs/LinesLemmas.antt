-- Lines in one buffer: what is joined is cut into the same lines again.
use Rattle.std.proofs.Common.{◌≡◌, ℕ, zero, suc, get_or, add-one, drop-cons, Some, slice_get, ◌+◌, ◌<◌, List, [], ◌∷◌, ◌++◌, length, take, drop, map, refl, ap, sym, ◌∙◌, subst, append_assoc, arith}
use Rattle.std.proofs.Math.Seq.{take-length, take-append_seam, drop-append-add}
use Rattle.std.proofs.lemmas.List.{map_push, length-append, length-map}
use Rattle.std.proofs.lemmas.List.Sums.{sum_by-cons}
use Rattle.ftp_reply.specs.Lines.{Text, octets_of, joined, lines_at, AreCutAtFeeds}

-- lines that are joined are cut again by their lengths
pub lines_at-joined : (lines : List Text) → lines_at (joined lines) (map length lines) ≡ lines
lines_at-joined [] = refl
lines_at-joined (line ∷ []) = ap (λ l. l ∷ []) (take-length line)
lines_at-joined (line ∷ next ∷ more) =
    ap (λ l. l ∷ lines_at (drop (length line + 1) (line ++ 10 ∷ joined (next ∷ more))) (map length (next ∷ more))) (take-append_seam line (10 ∷ joined (next ∷ more)))
    ∙ ap (λ rest. line ∷ lines_at rest (map length (next ∷ more))) (drop-append-add line (10 ∷ joined (next ∷ more)) 1)
    ∙ ap (λ ls. line ∷ ls) (lines_at-joined (next ∷ more))

-- a buffer and lengths that are those of some lines are cut into them
pub cut_as : (lines : List Text) (buffer : Text) (lens : List ℕ) → buffer ≡ joined lines → lens ≡ map length lines → lines_at buffer lens ≡ lines
cut_as lines buffer lens b n = rw (b, n) (lines_at-joined lines)

pub are_cut : (lines : List Text) (buffer : Text) (lens : List ℕ) → buffer ≡ joined lines → lens ≡ map length lines → AreCutAtFeeds buffer lens
are_cut lines buffer lens b n = record {
  buffer_is = b ∙ ap joined (sym (cut_as lines buffer lens b n));
  lens_are = n ∙ ap (map length) (sym (cut_as lines buffer lens b n));
}

-- one more line behind others stands behind an LF
pub joined-push : (first : Text) (more : List Text) (line : Text) → joined ((first ∷ more) ++ line ∷ []) ≡ (joined (first ∷ more) ++ 10 ∷ []) ++ line
joined-push first [] line = sym (append_assoc first (10 ∷ []) line)
joined-push first (second ∷ more) line =
    ap (λ rest. first ++ 10 ∷ rest) (joined-push second more line ∙ append_assoc (joined (second ∷ more)) (10 ∷ []) line)
    ∙ sym (append_assoc first (10 ∷ joined (second ∷ more)) (10 ∷ line))
    ∙ sym (append_assoc (first ++ 10 ∷ joined (second ∷ more)) (10 ∷ []) line)

-- the buffer has an octet more for each line but one
pub length-joined : (first : Text) (more : List Text) → length (joined (first ∷ more)) + 1 ≡ octets_of (first ∷ more) + length (first ∷ more)
length-joined first [] = simp (sum_by-cons) (omega arith)
length-joined first (second ∷ more) =
    let rest = length-joined second more in
    let whole = length-append first (10 ∷ joined (second ∷ more)) in
    let octets = sum_by-cons length first (second ∷ more) in
    omega arith

-- the lines of a buffer that is cut, in terms of the buffer
pub octets_at : (buffer : Text) (lens : List ℕ) → AreCutAtFeeds buffer lens → 0 < length lens → length buffer + 1 ≡ octets_of (lines_at buffer lens) + length lens
octets_at buffer [] cut some = absurd (omega arith)
octets_at buffer (len ∷ lens) cut some =
    let e = length-joined (take len buffer) (lines_at (drop (len + 1) buffer) lens) in
    let n = ap length cut.buffer_is in
    let k = ap length cut.lens_are ∙ length-map (lines_at buffer (len ∷ lens)) length in
    omega arith

-- a line behind the lines of a buffer
pub record Pushed (buffer : Text) (lens : List ℕ) (line : Text) (buffer' : Text) (lens' : List ℕ) : Type 0 where
  pub cut : AreCutAtFeeds buffer' lens'
  pub lines_are : lines_at buffer' lens' ≡ lines_at buffer lens ++ line ∷ []

pub pushed : (buffer : Text) (lens : List ℕ) (line mid : Text) → AreCutAtFeeds buffer lens → (length lens ≡ 0 → mid ≡ buffer) → (0 < length lens → mid ≡ buffer ++ 10 ∷ []) → Pushed buffer lens line (mid ++ line) (lens ++ length line ∷ [])
pushed buffer [] line mid cut first others =
    let e : mid ++ line ≡ joined (line ∷ []) = ap (λ b. b ++ line) (first refl ∙ cut.buffer_is) in
    record {
      cut = are_cut (line ∷ []) (mid ++ line) (length line ∷ []) e refl;
      lines_are = cut_as (line ∷ []) (mid ++ line) (length line ∷ []) e refl;
    }
pushed buffer (len ∷ lens) line mid cut first others =
    let lines = lines_at buffer (len ∷ lens) in
    let e : mid ++ line ≡ joined (lines ++ line ∷ []) =
    ap (λ b. b ++ line) (others (omega arith) ∙ ap (λ b. b ++ 10 ∷ []) cut.buffer_is) ∙ sym (joined-push (take len buffer) (lines_at (drop (len + 1) buffer) lens) line) in
    let n : (len ∷ lens) ++ length line ∷ [] ≡ map length (lines ++ line ∷ []) =
    ap (λ ls. ls ++ length line ∷ []) cut.lens_are ∙ sym (map_push length lines line) in
    record {
      cut = are_cut (lines ++ line ∷ []) (mid ++ line) ((len ∷ lens) ++ length line ∷ []) e n;
      lines_are = cut_as (lines ++ line ∷ []) (mid ++ line) ((len ∷ lens) ++ length line ∷ []) e n;
    }

-- where the rest of a list begins with an element, that is the element at the place
slice_get-drop : {X : Type 0} (xs ys : List X) (i : ℕ) (x : X) → drop i xs ≡ x ∷ ys → slice_get xs i ≡ Some x
slice_get-drop [] ys zero x e = cc
slice_get-drop [] ys (suc i) x e = cc
slice_get-drop (x' ∷ xs) ys zero x e = cc
slice_get-drop (x' ∷ xs) ys (suc i) x e = slice_get-drop xs ys i x e

drop_behind : {X : Type 0} (xs ys : List X) (i : ℕ) (x : X) → drop i xs ≡ x ∷ ys → drop (suc i) xs ≡ ys
drop_behind [] ys zero x e = cc
drop_behind [] ys (suc i) x e = cc
drop_behind (x' ∷ xs) ys zero x e = cc
drop_behind (x' ∷ xs) ys (suc i) x e = drop_behind xs ys i x e

-- the rest of a buffer begins with the line at the place
next_line : (lens : List ℕ) (lines : List Text) (rest : Text) (i : ℕ) → i < length lens → lines_at rest (drop i lens) ≡ drop i lines → drop i lines ≡ take (get_or lens i 0) rest ∷ lines_at (drop (get_or lens i 0 + 1) rest) (drop (i + 1) lens)
next_line lens lines rest i below e = sym e ∙ rw (drop-cons lens i 0 below) (rw (add-one i) refl)

pub line_here : (lens : List ℕ) (lines : List Text) (rest : Text) (i : ℕ) → i < length lens → lines_at rest (drop i lens) ≡ drop i lines → slice_get lines i ≡ Some (take (get_or lens i 0) rest)
line_here lens lines rest i below e = slice_get-drop lines _ i _ (next_line lens lines rest i below e)

pub lines_behind : (lens : List ℕ) (lines : List Text) (rest : Text) (i : ℕ) → i < length lens → lines_at rest (drop i lens) ≡ drop i lines → lines_at (drop (get_or lens i 0 + 1) rest) (drop (i + 1) lens) ≡ drop (i + 1) lines
lines_behind lens lines rest i below e =
    let rest' = lines_at (drop (get_or lens i 0 + 1) rest) (drop (i + 1) lens) in
    let e' : drop (suc i) lines ≡ rest' = drop_behind lines rest' i _ (next_line lens lines rest i below e) in
    sym (subst (λ (k : ℕ). drop k lines ≡ rest') (sym (add-one i)) e')
