-- The columns of a line of LIST, put one after another.
use Rattle.std.proofs.Common.{◌≡◌, ◌+◌, ◌-◌, ◌*◌, ◌/◌, ◌%◌, ℕ, List, [], ◌∷◌, ◌++◌, append_assoc, arith}

-- the number of two digits
pub two_are : (n : ℕ) → (48 + n / 10 - 48) * 10 + (48 + n % 10 - 48) ≡ n
two_are n = omega arith

-- a date
pub dated : (old a b y p q r s t u : List ℕ) → p ≡ old ++ 32 ∷ [] → q ≡ p ++ a → r ≡ q ++ 32 ∷ [] → s ≡ r ++ b → t ≡ s ++ 32 ∷ 32 ∷ [] → u ≡ t ++ y
    → u ≡ old ++ (32 ∷ (a ++ 32 ∷ (b ++ 32 ∷ 32 ∷ y)))
dated old a b y p q r s t u one two three four five six = rw (six, five, four, three, two, one) (simp append_assoc)

-- what a line has behind its rights
pub behind : (old rights rest p q : List ℕ) → p ≡ old ++ rights → q ≡ p ++ rest → q ≡ old ++ (rights ++ rest)
behind old rights rest p q one two = rw (two, one) (append_assoc old rights rest)
