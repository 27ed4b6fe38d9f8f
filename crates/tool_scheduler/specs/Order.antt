-- Turns that are fair (own choice): of those that are ready the one whose last turn is the oldest is next.
use Rattle.std.specs.Prelude.{◌≡◌, ℕ, Bool, false, not, eqb, ◌&&◌, ◌||◌, Option, List, [], ◌∷◌, ◌++◌, Some, None, position, remove}
use Rattle.std.specs.List.{slice_get}

-- what is said is that something is so
abbrev pub is_so : Option Bool → Bool
is_so (Some said) = said
is_so None = false

-- a place is ready
abbrev pub is_ready : List Bool → ℕ → Bool
is_ready ready place = is_so (slice_get ready place)

-- where the first of these places is that is ready
unfoldable pub first_ready : List Bool → List ℕ → Option ℕ
first_ready ready places = position (is_ready ready) places

-- where the first of these places is that both say
unfoldable pub first_both : (ready hashing : List Bool) → List ℕ → Option ℕ
first_both ready hashing places = position (λ place. is_ready ready place && is_ready hashing place) places

-- the place that stands there, if one does
abbrev pub place_standing_at : List ℕ → Option ℕ → Option ℕ
place_standing_at places None = None
place_standing_at places (Some at) = slice_get places at

-- the first of these places that is ready and whose next turn may hash a password
abbrev pub first_hashing : (ready hashing : List Bool) → List ℕ → Option ℕ
first_hashing ready hashing places = place_standing_at places (first_both ready hashing places)

-- it is this place
abbrev pub is_place : Option ℕ → ℕ → Bool
is_place None place = false
is_place (Some other) place = eqb place other

-- one that may hash a password has a turn only where it is this one
abbrev pub is_let : (hashing : List Bool) → Option ℕ → ℕ → Bool
is_let hashing first place = not (is_ready hashing place) || is_place first place

-- of those that are ready and may hash a password only the first in this order stays ready
abbrev pub LeavesOne : (hashing : List Bool) → (order : List ℕ) → (old new : List Bool) → Type 0
LeavesOne hashing order old new =
    (place : ℕ) → is_ready new place ≡ is_ready old place && is_let hashing (first_hashing old hashing order) place

-- a turn is taken by the first of these places that is ready, and after it that place comes last, after the others in the order that they had
abbrev pub Takes : List Bool → List ℕ → ℕ → List ℕ → Type 0
Takes ready places place rest =
    (at : ℕ) × (first_ready ready places ≡ Some at) × (slice_get places at ≡ Some place) × (rest ≡ remove places at ++ place ∷ [])
