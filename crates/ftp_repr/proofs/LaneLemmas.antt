-- Octets that go as two, counted.
use Rattle.std.proofs.Common.{◌≡◌, ℕ, ◌+◌, ◌≤◌, List, [], ◌∷◌, inl, inr, Bool, cond, ◌==◌, ◌%◌, ◌^◌, length, map, refl, ap, subst, sym, ◌∙◌, arith}
use Rattle.std.specs.List.{count_by}
use Rattle.std.proofs.lemmas.Bool.{eqb-true}
use Rattle.std.proofs.lemmas.List.{length-append}
use Rattle.std.proofs.lemmas.List.Sums.{sum_by-cons}
use Rattle.std.specs.Int.RustNames.{count_ones}
use Rattle.std.proofs.lemmas.Simd.{bitmask_splat, ones-mask_l}
use lib.Lanes.{mask_l, top, zip2}
use lib.ListN.{replicate}
use mir.Syntax.{w8}
use Rattle.ftp_repr.specs.Ascii.{ascii_octet, asc}
use Rattle.ftp_repr.proofs.AsciiLemmas.{decided}

-- an octet that is this one
abbrev pub is : ℕ → ℕ → Bool
is octet c = c == octet

octet_count : (c : ℕ) → length (ascii_octet c) ≡ 1 + cond (is 10 c) 1 0 + cond (is 13 c) 1 0
octet_count c =
    let P : ℕ → Type 0 = λ n. length (ascii_octet n) ≡ 1 + cond (is 10 n) 1 0 + cond (is 13 n) 1 0 in
    elim (decided (c == 10)) [
      | inl e ↦ subst P (sym (eqb-true c 10 e)) refl
      | inr e ↦ elim (decided (c == 13)) [ inl f ↦ subst P (sym (eqb-true c 13 f)) refl | inr f ↦ rw (e, f) refl ]
    ]

count_cons : (p : ℕ → Bool) (c : ℕ) (w : List ℕ) → count_by p (c ∷ w) ≡ cond (p c) 1 0 + count_by p w
count_cons p c w = sum_by-cons (λ x. cond (p x) 1 0) c w

pub asc_count : (w : List ℕ) → length (asc w) ≡ length w + count_by (is 10) w + count_by (is 13) w
asc_count [] = refl
asc_count (c ∷ w) =
    let both : length (asc (c ∷ w)) ≡ length (ascii_octet c) + length (asc w) = length-append (ascii_octet c) (asc w) in
    omega (arith, both, octet_count c, asc_count w, count_cons (is 10) c w, count_cons (is 13) c w)

-- the lanes that are an octet, as they are counted
pub lanes_count : (v : List ℕ) (octet : ℕ) → length v ≡ 32
    → count_ones (mask_l (map (top 7) (zip2 (λ a b. cond (a == b) 255 0) v (replicate 32 octet))) % 2 ^ 64) ≡ count_by (is octet) v
lanes_count v octet long =
    ap count_ones (bitmask_splat w8 (λ a b. a == b) v 32 octet long (omega arith)) ∙ ones-mask_l (is octet) v

pub asc_most : (w : List ℕ) → count_by (is 10) w + count_by (is 13) w ≤ length w
asc_most [] = let none : (p : ℕ → Bool) → count_by p [] ≡ 0 = λ p. refl in omega (arith, none (is 10), none (is 13))
asc_most (c ∷ w) =
    let P : ℕ → Type 0 = λ n. cond (is 10 n) 1 0 + cond (is 13 n) 1 0 ≤ 1 in
    let few : cond (is 10 c) 1 0 + cond (is 13 c) 1 0 ≤ 1 =
    elim (decided (c == 10)) [
      | inl e ↦ subst P (sym (eqb-true c 10 e)) (omega arith)
      | inr e ↦ elim (decided (c == 13)) [ inl f ↦ subst P (sym (eqb-true c 13 f)) (omega arith) | inr f ↦ rw (e, f) (omega arith) ]
    ] in
    omega (arith, few, asc_most w, count_cons (is 10) c w, count_cons (is 13) c w)
