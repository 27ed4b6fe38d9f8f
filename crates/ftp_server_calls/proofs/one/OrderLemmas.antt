-- One more call after calls of which the first are calm.
use Rattle.std.proofs.Common.{◌≡◌, ◌≤◌, Bool, true, false, nat_lt, ◌<◌, ℕ, zero, suc, ◌+◌, List, [], ◌∷◌, ◌++◌, get_or, length, take, length-take-le, refl, sym, subst, ap, ◌∙◌, arith}
use Rattle.std.specs.Prelude.{map}
use Rattle.std.proofs.lemmas.Bool.Decides.{nat_tests}
use Rattle.std.proofs.lemmas.List.{length-map, map-append, take_more}
use Rattle.ftp_server_calls.specs.one.Order.{CalmFirst, InOrder, OneMore}

-- the first of them are one more with the next
taken_on : {X Y : Type 0} (f : X → Y) (items : List X) (i : ℕ) (item other : X) → i < length items → item ≡ get_or items i other
    → map f (take (i + 1) items) ≡ map f (take i items) ++ f item ∷ []
taken_on f items i item other inside is =
    ap (map f) (take_more items i other inside) ∙ map-append f (take i items) (get_or items i other ∷ []) ∙ ap (λ x. map f (take i items) ++ f x ∷ []) (sym is)

module _ {S C G : Type 0} (Makes : C → G → S → S → Type 0) (IsCalm : C → S → S → Type 0) where
  -- after calls in order, another
  made_more : (cues : List C) (cue : C) (gifts : List G) (gift : G) (old mid new : S) → InOrder Makes cues gifts old mid → Makes cue gift mid new
      → InOrder Makes (cues ++ cue ∷ []) (gifts ++ gift ∷ []) old new
  made_more [] cue [] gift old mid new made next = (new, subst (λ s. Makes cue gift s new) made next, refl)
  made_more [] cue (given ∷ gifts) gift old mid new made next = absurd made
  made_more (first ∷ cues) cue [] gift old mid new made next = absurd made
  made_more (first ∷ cues) cue (given ∷ gifts) gift old mid new made next = (made.0, made.1, made_more cues cue gifts gift made.0 mid new made.2 next)

  -- after calm calls alone, another calm one
  calm_more : (calm : ℕ) (cues : List C) (cue : C) (gifts : List G) (gift : G) (old mid new : S) → calm ≡ length cues → CalmFirst Makes IsCalm calm cues gifts old mid
      → Makes cue gift mid new → IsCalm cue mid new → CalmFirst Makes IsCalm (suc calm) (cues ++ cue ∷ []) (gifts ++ gift ∷ []) old new
  calm_more zero [] cue [] gift old mid new all made next still =
      (new, subst (λ s. Makes cue gift s new) made next, subst (λ s. IsCalm cue s new) made still, refl)
  calm_more zero [] cue (given ∷ gifts) gift old mid new all made next still = absurd made
  calm_more zero (first ∷ cues) cue gifts gift old mid new all made next still = absurd (omega (arith, all))
  calm_more (suc calm) [] cue gifts gift old mid new all made next still = absurd made
  calm_more (suc calm) (first ∷ cues) cue [] gift old mid new all made next still = absurd made
  calm_more (suc calm) (first ∷ cues) cue (given ∷ gifts) gift old mid new all made next still =
      (made.0, made.1, made.2, calm_more calm cues cue gifts gift made.0 mid new (omega (arith, all)) made.3 next still)

  -- after calm calls alone, one that is not
  moved_more : (calm : ℕ) (cues : List C) (cue : C) (gifts : List G) (gift : G) (old mid new : S) → calm ≡ length cues → CalmFirst Makes IsCalm calm cues gifts old mid
      → Makes cue gift mid new → (IsCalm cue mid new → ⊥) → CalmFirst Makes IsCalm calm (cues ++ cue ∷ []) (gifts ++ gift ∷ []) old new
  moved_more zero [] cue [] gift old mid new all made next moved =
      (new, subst (λ s. Makes cue gift s new) made next, subst (λ s. IsCalm cue s new → ⊥) made moved, refl)
  moved_more zero [] cue (given ∷ gifts) gift old mid new all made next moved = absurd made
  moved_more zero (first ∷ cues) cue gifts gift old mid new all made next moved = absurd (omega (arith, all))
  moved_more (suc calm) [] cue gifts gift old mid new all made next moved = absurd made
  moved_more (suc calm) (first ∷ cues) cue [] gift old mid new all made next moved = absurd made
  moved_more (suc calm) (first ∷ cues) cue (given ∷ gifts) gift old mid new all made next moved =
      (made.0, made.1, made.2, moved_more calm cues cue gifts gift made.0 mid new (omega (arith, all)) made.3 next moved)

  -- after one that is not calm, any
  any_more : (calm : ℕ) (cues : List C) (cue : C) (gifts : List G) (gift : G) (old mid new : S) → calm < length cues → CalmFirst Makes IsCalm calm cues gifts old mid
      → Makes cue gift mid new → CalmFirst Makes IsCalm calm (cues ++ cue ∷ []) (gifts ++ gift ∷ []) old new
  any_more zero [] cue gifts gift old mid new less made next = absurd (omega (arith, less))
  any_more zero (first ∷ cues) cue [] gift old mid new less made next = absurd made
  any_more zero (first ∷ cues) cue (given ∷ gifts) gift old mid new less made next =
      (made.0, made.1, made.2, made_more cues cue gifts gift made.0 mid new made.3 next)
  any_more (suc calm) [] cue gifts gift old mid new less made next = absurd made
  any_more (suc calm) (first ∷ cues) cue [] gift old mid new less made next = absurd made
  any_more (suc calm) (first ∷ cues) cue (given ∷ gifts) gift old mid new less made next =
      (made.0, made.1, made.2, any_more calm cues cue gifts gift made.0 mid new (omega (arith, less)) made.3 next)

  -- the calm ones are among them
  calm_few : (calm : ℕ) (cues : List C) (gifts : List G) (old new : S) → CalmFirst Makes IsCalm calm cues gifts old new → calm ≤ length cues
  calm_few zero cues gifts old new made = omega arith
  calm_few (suc calm) [] gifts old new made = absurd made
  calm_few (suc calm) (first ∷ cues) [] old new made = absurd made
  calm_few (suc calm) (first ∷ cues) (given ∷ gifts) old new made = omega (arith, calm_few calm cues gifts made.0 new made.3)

  -- one more, and how many were calm then
  pub played_more : (is_calm : Bool) (calm after : ℕ) (cues : List C) (cue : C) (gifts more : List G) (old mid new : S) → CalmFirst Makes IsCalm calm cues gifts old mid
      → OneMore Makes IsCalm is_calm cue gifts more mid new → (is_calm ≡ true → calm ≡ length cues → after ≡ calm + 1) → (is_calm ≡ false → after ≡ calm)
      → (calm < length cues → after ≡ calm) → CalmFirst Makes IsCalm after (cues ++ cue ∷ []) more old new
  played_more is_calm calm after cues cue gifts more old mid new made next on off past =
      subst (λ l. CalmFirst Makes IsCalm after (cues ++ cue ∷ []) l old new) (sym next.kept) (by_place (nat_lt calm (length cues)) refl)
    where
      all_calm : (b : Bool) → is_calm ≡ b → calm ≡ length cues → CalmFirst Makes IsCalm after (cues ++ cue ∷ []) (gifts ++ next.gift ∷ []) old new
      all_calm true is all =
          subst (λ n. CalmFirst Makes IsCalm n (cues ++ cue ∷ []) (gifts ++ next.gift ∷ []) old new) (let e : suc calm ≡ after = omega (arith, on is all) in e)
          (calm_more calm cues cue gifts next.gift old mid new all made next.makes (next.calm is))
      all_calm false is all =
          subst (λ n. CalmFirst Makes IsCalm n (cues ++ cue ∷ []) (gifts ++ next.gift ∷ []) old new) (sym (off is))
          (moved_more calm cues cue gifts next.gift old mid new all made next.makes (next.moved is))

      by_place : (b : Bool) → nat_lt calm (length cues) ≡ b → CalmFirst Makes IsCalm after (cues ++ cue ∷ []) (gifts ++ next.gift ∷ []) old new
      by_place true is =
          let less : calm < length cues = grind (arith, nat_tests) in
          subst (λ n. CalmFirst Makes IsCalm n (cues ++ cue ∷ []) (gifts ++ next.gift ∷ []) old new) (sym (past less))
          (any_more calm cues cue gifts next.gift old mid new less made next.makes)
      by_place false is =
          let few = calm_few calm cues gifts old mid made in
          let all : calm ≡ length cues = grind (arith, nat_tests) in all_calm is_calm refl all

  -- all that are told were made
  pub are_made : (calm : ℕ) (cues : List C) (gifts : List G) (old new : S) → CalmFirst Makes IsCalm calm cues gifts old new → InOrder Makes cues gifts old new
  are_made zero [] [] old new made = made
  are_made zero [] (gift ∷ gifts) old new made = made
  are_made zero (cue ∷ cues) [] old new made = made
  are_made zero (cue ∷ cues) (gift ∷ gifts) old new made = (made.0, made.1, made.3)
  are_made (suc calm) [] gifts old new made = absurd made
  are_made (suc calm) (cue ∷ cues) [] old new made = made
  are_made (suc calm) (cue ∷ cues) (gift ∷ gifts) old new made = (made.0, made.1, are_made calm cues gifts made.0 new made.3)

  -- the next of a list was made
  pub one_more : {X : Type 0} (see : X → C) (items : List X) (i : ℕ) (item other : X) (is_calm : Bool) (calm after : ℕ) (gifts more : List G) (old mid new : S) → i < length items
      → item ≡ get_or items i other → CalmFirst Makes IsCalm calm (map see (take i items)) gifts old mid → OneMore Makes IsCalm is_calm (see item) gifts more mid new
      → (is_calm ≡ true → calm ≡ i → after ≡ calm + 1) → (is_calm ≡ false → after ≡ calm) → (calm < i → after ≡ calm)
      → CalmFirst Makes IsCalm after (map see (take (i + 1) items)) more old new
  one_more see items i item other is_calm calm after gifts more old mid new inside is made next on off past =
      subst (λ l. CalmFirst Makes IsCalm after l more old new) (sym (taken_on see items i item other inside is))
      (played_more is_calm calm after (map see (take i items)) (see item) gifts more old mid new made next
      (λ calmly all. on calmly (all ∙ long)) off (λ less. past (subst (λ n. calm < n) long less)))
    where
      long : length (map see (take i items)) ≡ i
      long = length-map (take i items) see ∙ length-take-le i items (omega (arith, inside))
