-- Amounts, as words of a command line say them (own choice).
use Rattle.std.specs.Prelude.{◌≡◌, ◌<◌, ◌*◌, ◌-◌, ◌^◌, ◌++◌, ◌∷◌, ◌⊎◌, [], ℕ, List, codes}
use Rattle.std.specs.Str.Parse.{IsNumeral, digits_value}

-- a decimal number, digits alone, so many times as much, below 2 ^ 64
abbrev pub SaysTimes : ℕ → List ℕ → ℕ → Type 0
SaysTimes unit digits n = IsNumeral 10 digits × (n ≡ digits_value 10 digits * unit) × (n < 2 ^ 64)

-- K, M, G and T stand for powers of 1,024
abbrev pub IsUnitLetter : ℕ → ℕ → Type 0
IsUnitLetter letter unit =
    ((letter ≡ 75) × (unit ≡ 1024))
    ⊎ ((letter ≡ 77) × (unit ≡ 1048576))
    ⊎ ((letter ≡ 71) × (unit ≡ 1073741824))
    ⊎ ((letter ≡ 84) × (unit ≡ 1099511627776))

-- a word is these digits, and then the letter of this power
abbrev pub EndsInUnit : List ℕ → List ℕ → ℕ → Type 0
EndsInUnit word digits unit = (letter : ℕ) × IsUnitLetter letter unit × (word ≡ digits ++ (letter ∷ []))

-- a number, or one with a letter after it, by whose power it is multiplied
abbrev pub SaysAmount : List ℕ → ℕ → Type 0
SaysAmount word n = SaysTimes 1 word n ⊎ ((digits : List ℕ) × (unit : ℕ) × EndsInUnit word digits unit × SaysTimes unit digits n)

-- an amount, or `any`, which is the largest number
abbrev pub SaysMost : List ℕ → ℕ → Type 0
SaysMost word n = ((word ≡ codes "any") × (n ≡ 2 ^ 64 - 1)) ⊎ SaysAmount word n
