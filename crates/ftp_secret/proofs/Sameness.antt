-- What the or of the xors of two texts says.
use Rattle.std.proofs.Common.{◌≡◌, ◌<◌, ◌≤◌, ℕ, ◌+◌, List, length, get_or, bit_or, bit_xor, sym, ◌∙◌, ap, refl, arith, below_more, ◌==◌}
use Rattle.std.specs.Int.Bits.{xor_assoc, xor_self, xor_zero_r, xor_zero_l}
use Rattle.std.specs.Str.{bytes_eq}
use Rattle.std.proofs.lemmas.Nat.{le_or_l, le_or_r}
use Rattle.std.proofs.lemmas.List.{ext_get_or}
use Rattle.std.proofs.lemmas.Slice.Eq.{bytes_eq-Decides}
use Rattle.std.proofs.lemmas.Bool.Decides.{Decides-eqb, Decides-like, same_from_decides}

-- two texts of one length have the same octets in front
abbrev pub AreSameSoFar : List ℕ → List ℕ → ℕ → Type 0
AreSameSoFar right given count = (length right ≡ length given) × ((i : ℕ) → i < count → get_or right i 0 ≡ get_or given i 0)

-- numbers whose xor is 0 are one
pub xor_none : (a b : ℕ) → bit_xor a b ≡ 0 → a ≡ b
xor_none a b none =
    sym (xor_zero_r a) ∙ ap (λ n. bit_xor a n) (sym (xor_self b)) ∙ sym (xor_assoc a b b) ∙ ap (λ n. bit_xor n b) none ∙ xor_zero_l b

-- one octet more says that none differs, or that one did
pub one_found : (right given : List ℕ) (i old a : ℕ) → (old ≡ 0 → AreSameSoFar right given i) → a ≡ get_or right i 0
    → bit_or old (bit_xor a (get_or given i 0)) ≡ 0 → AreSameSoFar right given (i + 1)
one_found right given i old a before is none =
    let first : old ≡ 0 = omega (arith, le_or_l old (bit_xor a (get_or given i 0))) in
    let second : bit_xor a (get_or given i 0) ≡ 0 = omega (arith, le_or_r old (bit_xor a (get_or given i 0))) in
    let same : get_or right i 0 ≡ get_or given i 0 = sym is ∙ xor_none a (get_or given i 0) second in
    ((before first).0, below_more (λ k. get_or right k 0 ≡ get_or given k 0) i (before first).1 same)

pub one_kept : (right given : List ℕ) (i old a : ℕ) → (AreSameSoFar right given i → old ≡ 0) → a ≡ get_or right i 0
    → AreSameSoFar right given (i + 1) → bit_or old (bit_xor a (get_or given i 0)) ≡ 0
one_kept right given i old a before is same =
    let first : old ≡ 0 = before (same.0, λ k below. same.1 k (omega arith)) in
    let second : bit_xor a (get_or given i 0) ≡ 0 = rw (is, same.1 i (omega arith)) (xor_self (get_or given i 0)) in
    rw (first, second) refl

-- all octets
pub all_same : (right given : List ℕ) (count differs : ℕ) → length given ≤ count → (differs ≡ 0 → AreSameSoFar right given count)
    → (AreSameSoFar right given count → differs ≡ 0) → (differs == 0) ≡ bytes_eq right given
all_same right given count differs end found kept =
    let whole : differs ≡ 0 → right ≡ given =
    λ none. ext_get_or 0 right given (found none).0 (λ i below. (found none).1 i (omega (arith, (found none).0))) in
    let back : right ≡ given → differs ≡ 0 =
    λ same. kept (ap length same, λ i below. ap (λ xs. get_or xs i 0) same) in
    same_from_decides (differs == 0) (bytes_eq right given) (Decides-like (differs == 0) whole back (Decides-eqb differs 0)) (bytes_eq-Decides right given)
