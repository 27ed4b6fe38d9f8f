-- A machine that takes a row of one kind and gives a row of another.
use Rattle.std.specs.Prelude.{◌≡◌, List, [], ◌∷◌, ◌++◌}

-- what a state goes on to, and what it gives, for one of a row
pub record Machine (S I O : Type 0) : Type 0 where
  pub step : S → I → S
  pub out : S → I → List O

-- the state after a row
abbrev pub after : {S I O : Type 0} → Machine S I O → S → List I → S
after m s [] = s
after m s (x ∷ xs) = after m (m.step s x) xs

-- what is given for a row
abbrev pub gives : {S I O : Type 0} → Machine S I O → S → List I → List O
gives m s [] = []
gives m s (x ∷ xs) = m.out s x ++ gives m (m.step s x) xs

-- w is a front of v
abbrev pub IsFront : {O : Type 0} → List O → List O → Type 0
IsFront {O} w v = (rest : List O) × (w ++ rest ≡ v)
