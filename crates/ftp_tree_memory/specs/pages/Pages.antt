-- How octets are kept: in pages, of which each but the last is full.
use Rattle.std.specs.Prelude.{◌≡◌, ◌≤◌, ◌<◌, ℕ, List, [], ◌∷◌, length, map}
use Rattle.std.specs.declared.vec.Vec.{Vec}

-- how many octets a full page has
abbrev pub page_size : ℕ
page_size = 4096

-- each page but the last is full, and none has more
abbrev pub IsPaged : List (List ℕ) → Type 0
IsPaged [] = Unit {0}
IsPaged (page ∷ []) = length page ≤ page_size
IsPaged (page ∷ next ∷ pages) = (length page ≡ page_size) × IsPaged (next ∷ pages)

-- there is a last page, and it is not full
abbrev pub HasRoom : List (List ℕ) → Type 0
HasRoom [] = ⊥
HasRoom (page ∷ []) = length page < page_size
HasRoom (page ∷ next ∷ pages) = HasRoom (next ∷ pages)

-- the octets of each page
abbrev pub page_octets : {A : Type 0} → List (Vec ℕ A) → List (List ℕ)
page_octets = map (λ page. page.items)
