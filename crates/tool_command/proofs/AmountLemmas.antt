-- A letter ends a word in one way, and no number.
use Rattle.std.proofs.Common.{◌≡◌, ◌≢◌, ◌<◌, ◌++◌, ◌∷◌, inl, inr, [], ℕ, List, ap, sym, subst, ◌∙◌, arith, refl, length, length-append, get_or, Option, Some, None, IfNone}
use Rattle.std.specs.Prelude.{codes}
use Rattle.std.specs.Char.{digit_value}
use Rattle.std.specs.Str.Parse.{AllDigits, IsNumeral}
use Rattle.tool_command.specs.Amount.{EndsInUnit, IsUnitLetter, SaysAmount, SaysMost, SaysTimes}

-- words with one letter more are the same in one way
snoc_same : (xs ys : List ℕ) (a b : ℕ) → xs ++ (a ∷ []) ≡ ys ++ (b ∷ []) → (xs ≡ ys) × (a ≡ b)
snoc_same [] [] a b e = (refl, ap (λ l. get_or l 0 0) e)
snoc_same [] (y ∷ ys) a b e = absurd (omega (arith, ap length e, length-append ys (b ∷ [])))
snoc_same (x ∷ xs) [] a b e = absurd (omega (arith, ap length e, length-append xs (a ∷ [])))
snoc_same (x ∷ xs) (y ∷ ys) a b e =
    let rest : (xs ≡ ys) × (a ≡ b) = snoc_same xs ys a b (cc) in
    let first : x ≡ y = ap (λ l. get_or l 0 0) e in
    (cc, rest.1)

-- the last octet of digits is a digit
last_digit : (xs : List ℕ) (c : ℕ) → AllDigits 10 (xs ++ (c ∷ [])) → digit_value c < 10
last_digit [] c h = h.0
last_digit (x ∷ xs) c h = last_digit xs c h.1

-- which no letter is
no_digit : (letter unit : ℕ) → IsUnitLetter letter unit → digit_value letter < 10 → ⊥
no_digit letter unit (inl e) h = let k : digit_value 75 < 10 = subst (λ n. digit_value n < 10) e.0 h in omega (arith, k)
no_digit letter unit (inr (inl e)) h = let k : digit_value 77 < 10 = subst (λ n. digit_value n < 10) e.0 h in omega (arith, k)
no_digit letter unit (inr (inr (inl e))) h = let k : digit_value 71 < 10 = subst (λ n. digit_value n < 10) e.0 h in omega (arith, k)
no_digit letter unit (inr (inr (inr e))) h = let k : digit_value 84 < 10 = subst (λ n. digit_value n < 10) e.0 h in omega (arith, k)

-- so no number ends in one
no_number : (word digits : List ℕ) (unit : ℕ) → EndsInUnit word digits unit → IsNumeral 10 word → ⊥
no_number word digits unit ends numeral =
    no_digit ends.0 unit ends.1 (last_digit digits ends.0 (subst (AllDigits 10) ends.2 numeral.1))

-- a letter stands for one power
one_unit : (letter unit other : ℕ) → IsUnitLetter letter unit → IsUnitLetter letter other → unit ≡ other
one_unit letter unit other h k = grind arith

-- so a word ends in one way
ends_once : (word digits other : List ℕ) (unit more : ℕ) → EndsInUnit word digits unit → EndsInUnit word other more → (digits ≡ other) × (unit ≡ more)
ends_once word digits other unit more h k =
    let same : (digits ≡ other) × (h.0 ≡ k.0) = snoc_same digits other h.0 k.0 (sym h.2 ∙ k.2) in
    (same.0, one_unit k.0 unit more (subst (λ letter. IsUnitLetter letter unit) same.1 h.1) k.1)

-- a word that ends in a letter says nothing where its digits, so many times, do not
pub none_behind : (word digits : List ℕ) (unit : ℕ) (r : Option ℕ) → EndsInUnit word digits unit → IfNone r ((n : ℕ) → ¬ SaysTimes unit digits n)
    → IfNone r ((n : ℕ) → ¬ SaysAmount word n)
none_behind word digits unit (Some n) ends none = tt
none_behind word digits unit None ends none =
    λ n. λ h. by n h
  where
    by : (n : ℕ) → SaysAmount word n → ⊥
    by n (inl h) = no_number word digits unit ends h.0
    by n (inr h) =
        let same : (h.0 ≡ digits) × (h.1 ≡ unit) = ends_once word h.0 digits h.1 unit h.2 ends in
        none n (subst (λ d. SaysTimes unit d n) same.0 (subst (λ u. SaysTimes u h.0 n) same.1 h.3))

-- one that ends in none, where it is no number
pub none_alone : (word : List ℕ) (r : Option ℕ) → ((digits : List ℕ) (unit : ℕ) → ¬ EndsInUnit word digits unit) → IfNone r ((n : ℕ) → ¬ SaysTimes 1 word n)
    → IfNone r ((n : ℕ) → ¬ SaysAmount word n)
none_alone word (Some n) never none = tt
none_alone word None never none = λ n. λ h. by n h
  where
    by : (n : ℕ) → SaysAmount word n → ⊥
    by n (inl h) = none n h
    by n (inr h) = never h.0 h.1 h.2

-- and one that is not `any`, where it is no amount
pub none_any : (word : List ℕ) (r : Option ℕ) → word ≢ codes "any" → IfNone r ((n : ℕ) → ¬ SaysAmount word n) → IfNone r ((n : ℕ) → ¬ SaysMost word n)
none_any word (Some n) differs none = tt
none_any word None differs none = λ n. λ h. by n h
  where
    by : (n : ℕ) → SaysMost word n → ⊥
    by n (inl h) = differs h.0
    by n (inr h) = none n h

-- what digits say so many times is one
times_once : (unit : ℕ) (digits : List ℕ) (m n : ℕ) → SaysTimes unit digits m → SaysTimes unit digits n → m ≡ n
times_once unit digits m n h k = h.1 ∙ sym k.1

-- and so is what a word says
amount_once : (word : List ℕ) (m n : ℕ) → SaysAmount word m → SaysAmount word n → m ≡ n
amount_once word m n (inl h) (inl k) = times_once 1 word m n h k
amount_once word m n (inl h) (inr k) = absurd (no_number word k.0 k.1 k.2 h.0)
amount_once word m n (inr h) (inl k) = absurd (no_number word h.0 h.1 h.2 k.0)
amount_once word m n (inr h) (inr k) =
    let same : (h.0 ≡ k.0) × (h.1 ≡ k.1) = ends_once word h.0 k.0 h.1 k.1 h.2 k.2 in
    times_once k.1 k.0 m n (subst (λ d. SaysTimes k.1 d m) same.0 (subst (λ u. SaysTimes u h.0 m) same.1 h.3)) k.3

-- no letter of a power is `y`
no_letter : (letter unit : ℕ) → IsUnitLetter letter unit → letter ≡ 121 → ⊥
no_letter letter unit h e = grind arith

-- so `any` is no amount, since it begins in no digit
any_alone : (n : ℕ) → SaysAmount (codes "any") n → ⊥
any_alone n (inl h) = let k : digit_value 97 < 10 = h.0.1.0 in omega (arith, k)
any_alone n (inr h) = no_letter h.2.0 h.1 h.2.1 (snoc_same h.0 (codes "an") h.2.0 121 (sym h.2.2)).1

pub most_once : (word : List ℕ) (m n : ℕ) → SaysMost word m → SaysMost word n → m ≡ n
most_once word m n (inl h) (inl k) = h.1 ∙ sym k.1
most_once word m n (inl h) (inr k) = absurd (any_alone n (subst (λ w. SaysAmount w n) h.0 k))
most_once word m n (inr h) (inl k) = absurd (any_alone m (subst (λ w. SaysAmount w m) k.0 h))
most_once word m n (inr h) (inr k) = amount_once word m n h k
