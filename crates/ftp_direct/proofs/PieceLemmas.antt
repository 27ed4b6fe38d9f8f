-- A file's octets, gathered piece by piece.
use Rattle.std.proofs.Common.{◌≡◌, ℕ, ◌+◌, ◌-◌, ◌≤◌, List, ◌++◌, length, take, drop, ap, sym, ◌∙◌, arith, append_assoc}
use Rattle.std.proofs.lemmas.List.{take-append-drop, drop-drop, drop-take, take-take}

-- a piece of a file is one of its front, if that reaches so far
in_front : (file piece : List ℕ) (at end : ℕ) → at ≤ end → length piece ≤ end - at → piece ≡ take (length piece) (drop at file)
    → piece ≡ take (length piece) (drop at (take end file))
in_front file piece at end before few is =
    let k = length piece in
    is ∙ sym (take-take k (end - at) (drop at file) few) ∙ ap (take k) (sym (drop-take at (end - at) file)) ∙ ap (λ n. take k (drop at (take n file))) (omega (arith, before))

pub read_more : (file got piece : List ℕ) (at from end next most : ℕ) → got ++ drop at (take end file) ≡ drop from (take end file)
    → piece ≡ take (length piece) (drop at file) → at ≤ end → length piece ≤ most → most ≤ end - at → next ≡ at + length piece
    → (got ++ piece) ++ drop next (take end file) ≡ drop from (take end file)
read_more file got piece at from end next most so_far is before few within step =
    let k = length piece in
    let front = take end file in
    let own : piece ≡ take k (drop at front) = in_front file piece at end before (omega (arith, few, within)) is in
    let rest : piece ++ drop next front ≡ drop at front =
    ap (λ p. p ++ drop next front) own ∙ ap (λ n. take k (drop at front) ++ drop n front) step
    ∙ ap (λ d. take k (drop at front) ++ d) (ap (λ n. drop n front) (omega arith) ∙ sym (drop-drop k at front)) ∙ take-append-drop k (drop at front) in
    append_assoc got piece (drop next front) ∙ ap (λ d. got ++ d) rest ∙ so_far
