-- Calls one after another, of whatever makes them, of which the first are calm (own choice).
use Rattle.std.specs.Prelude.{◌≡◌, ◌++◌, ℕ, zero, suc, Bool, true, false, List, [], ◌∷◌}

-- each was made, and gave its gift
abbrev pub InOrder : {S C G : Type 0} → (Makes : C → G → S → S → Type 0) → List C → List G → (old new : S) → Type 0
InOrder Makes [] [] old new = new ≡ old
InOrder Makes [] (gift ∷ gifts) old new = ⊥
InOrder Makes (cue ∷ cues) [] old new = ⊥
InOrder {S} Makes (cue ∷ cues) (gift ∷ gifts) old new = (mid : S) × Makes cue gift old mid × InOrder Makes cues gifts mid new

-- each was made: the first `calm` of them were calm, and the next, if there is one, was not
abbrev pub CalmFirst : {S C G : Type 0} → (Makes : C → G → S → S → Type 0) → (IsCalm : C → S → S → Type 0) → (calm : ℕ) → List C → List G → (old new : S) → Type 0
CalmFirst Makes IsCalm zero [] [] old new = new ≡ old
CalmFirst Makes IsCalm zero [] (gift ∷ gifts) old new = ⊥
CalmFirst Makes IsCalm zero (cue ∷ cues) [] old new = ⊥
CalmFirst {S} Makes IsCalm zero (cue ∷ cues) (gift ∷ gifts) old new = (mid : S) × Makes cue gift old mid × (IsCalm cue old mid → ⊥) × InOrder Makes cues gifts mid new
CalmFirst Makes IsCalm (suc calm) [] gifts old new = ⊥
CalmFirst Makes IsCalm (suc calm) (cue ∷ cues) [] old new = ⊥
CalmFirst {S} Makes IsCalm (suc calm) (cue ∷ cues) (gift ∷ gifts) old new =
    (mid : S) × Makes cue gift old mid × IsCalm cue old mid × CalmFirst Makes IsCalm calm cues gifts mid new

-- one more was made, and what it gave stands after what was given before; it was calm, or it was not
pub record OneMore {S C G : Type 0} (Makes : C → G → S → S → Type 0) (IsCalm : C → S → S → Type 0) (is_calm : Bool) (cue : C) (before after : List G) (old new : S) : Type 0 where
  pub gift : G
  pub kept : after ≡ before ++ gift ∷ []
  pub makes : Makes cue gift old new
  pub calm : is_calm ≡ true → IsCalm cue old new
  pub moved : is_calm ≡ false → IsCalm cue old new → ⊥
