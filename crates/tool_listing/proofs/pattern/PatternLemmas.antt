-- Patterns: how a text stands to a pattern, and that behind a star that was reached no star before it is gone back to.
use Rattle.std.proofs.Common.{◌≡◌, inl, inr, ◌<◌, ◌≤◌, ◌++◌, ◌+◌, ◌==◌, ◌&&◌, ◌||◌, ◌∙◌, ℕ, zero, suc, Bool, true, false, not, List, [], ◌∷◌, length, drop, sym, refl, arith, append_assoc}
use Rattle.std.proofs.lemmas.Bool.{and_parts, both_ways, not-true, or_cases}
use Rattle.std.specs.List.{list_all}
use Rattle.tool_listing.specs.declared.pattern.pattern.Meeting.TheVariants as Meetings
use Rattle.tool_listing.specs.pattern.Pattern.{is_floating, is_octet, matches, meet, slash, some_rest, star}

-- so many octets of a pattern, none of them a star, stand for those of a text, and a star comes next
abbrev pub Fits : ℕ → List ℕ → List ℕ → Type 0
Fits zero [] text = ⊥
Fits zero (c ∷ p) text = (c == star) ≡ true
Fits (suc j) [] text = ⊥
Fits (suc j) (c ∷ p) [] = ⊥
Fits (suc j) (c ∷ p) (o ∷ t) = ((c == star) ≡ false) × (is_octet c o ≡ true) × Fits j p t

-- octets that are no slash
abbrev pub plain : List ℕ → Bool
plain octets = list_all (λ octet. not (octet == slash)) octets

-- what was met before stays met
pub met_more : (p t : List ℕ) (at n : ℕ) → meet at p t ≡ Meetings.Star n → at ≤ n
met_more [] [] at n is = grind arith
met_more [] (o ∷ t) at n is = grind arith
met_more (c ∷ p) [] at n is = grind arith
met_more (c ∷ p) (o ∷ t) at n is = grind (arith, met_more p t (at + 1) n)

-- a pattern that meets a text up to a star fits it so far
pub met_fits : (p t : List ℕ) (at j n : ℕ) → n ≡ at + j → meet at p t ≡ Meetings.Star n → Fits j p t
met_fits [] [] at zero n so is = grind arith
met_fits [] [] at (suc j) n so is = grind arith
met_fits [] (o ∷ t) at zero n so is = grind arith
met_fits [] (o ∷ t) at (suc j) n so is = grind arith
met_fits (c ∷ p) [] at zero n so is = grind arith
met_fits (c ∷ p) [] at (suc j) n so is = grind arith
met_fits (c ∷ p) (o ∷ t) at zero n so is = grind (arith, met_more p t (at + 1) n)
met_fits (c ∷ p) (o ∷ t) at (suc j) n so is =
    (grind (arith, met_more p t (at + 1) n), grind (arith, met_more p t (at + 1) n), met_fits p t (at + 1) j n (omega arith) (grind arith))

-- one that is the whole text matches it
pub met_whole : (p t : List ℕ) (at : ℕ) → meet at p t ≡ Meetings.Whole → matches p t ≡ true
met_whole [] [] at is = grind arith
met_whole [] (o ∷ t) at is = grind arith
met_whole (c ∷ p) [] at is = grind arith
met_whole (c ∷ p) (o ∷ t) at is = grind (arith, met_whole p t (at + 1))

-- one of other octets does not
pub met_apart : (p t : List ℕ) (at : ℕ) → meet at p t ≡ Meetings.Apart → matches p t ≡ false
met_apart [] [] at is = grind arith
met_apart [] (o ∷ t) at is = grind arith
met_apart (c ∷ p) [] at is = grind arith
met_apart (c ∷ p) (o ∷ t) at is = grind (arith, met_apart p t (at + 1))

-- the rest is met from a star on
pub fits_matches : (j : ℕ) (p t : List ℕ) → Fits j p t → matches p t ≡ some_rest (matches (drop 1 (drop j p))) (drop j t)
fits_matches zero [] t fits = absurd fits
fits_matches zero (c ∷ p) t fits = grind arith
fits_matches (suc j) [] t fits = absurd fits
fits_matches (suc j) (c ∷ p) [] fits = absurd fits
fits_matches (suc j) (c ∷ p) (o ∷ t) fits = grind (arith, fits_matches j p t fits.2)

-- what holds of a text holds of some rest of it
pub some_here : (h : List ℕ → Bool) (t : List ℕ) → h t ≡ true → some_rest h t ≡ true
some_here h [] is = is
some_here h (o ∷ t) is = grind arith

-- octets before it that are no slash change nothing
pub some_behind : (h : List ℕ → Bool) (s u : List ℕ) → plain s ≡ true → some_rest h u ≡ true → some_rest h (s ++ u) ≡ true
some_behind h [] u apart is = is
some_behind h (o ∷ s) u apart is = grind (arith, some_behind h s u)

-- an octet that stands for what one without a slash stands for is no slash
pub no_slash : (c o n : ℕ) → is_octet c o ≡ true → is_octet c n ≡ true → (o == slash) ≡ false → (n == slash) ≡ false
no_slash c o n one other is = grind arith

-- one more octet that is no slash
pub plain_more : (s : List ℕ) (n : ℕ) → plain s ≡ true → (n == slash) ≡ false → plain (s ++ n ∷ []) ≡ true
plain_more [] n apart is = grind arith
plain_more (x ∷ s) n apart is = grind (arith, plain_more s n)

-- Octets that fit stand before a star, and behind a front without a slash the pattern matches once more: the star covers what lies between.
pub greedy : (j : ℕ) (p : List ℕ) (o : ℕ) (s u : List ℕ) → Fits j p (o ∷ (s ++ u)) → (o == slash) ≡ false → plain s ≡ true → matches p u ≡ true
    → some_rest (matches (drop 1 (drop j p))) (drop j (o ∷ (s ++ u))) ≡ true
greedy zero [] o s u fits one rest is = absurd fits
greedy zero (c ∷ p) o s u fits one rest is = grind (arith, some_behind (matches p) s u)
greedy (suc j) [] o s u fits one rest is = absurd fits
greedy (suc j) (c ∷ p) o s [] fits one rest is = grind arith
greedy (suc j) (c ∷ p) o [] (n ∷ u) fits one rest is =
    greedy j p n [] u fits.2 (no_slash c o n fits.1 (grind arith) one) refl (grind arith)
greedy (suc j) (c ∷ p) o (x ∷ s) (n ∷ u) fits one rest is =
    let more : s ++ n ∷ u ≡ (s ++ n ∷ []) ++ u = sym (append_assoc s (n ∷ []) u) in
    let so : Fits j p (x ∷ ((s ++ n ∷ []) ++ u)) = rw (sym more) fits.2 in
    let next : (n == slash) ≡ false = no_slash c o n fits.1 (grind arith) one in
    rw more (greedy j p x (s ++ n ∷ []) u so (grind arith) (plain_more s n (grind arith) next) (grind arith))

-- the same of any rest behind such a front
pub later : (u : List ℕ) (j : ℕ) (p : List ℕ) (o : ℕ) (s : List ℕ) → Fits j p (o ∷ (s ++ u)) → (o == slash) ≡ false → plain s ≡ true
    → some_rest (matches p) u ≡ true → some_rest (matches (drop 1 (drop j p))) (drop j (o ∷ (s ++ u))) ≡ true
later [] j p o s fits one rest is = greedy j p o s [] fits one rest is
later (n ∷ u) j p o s fits one rest is =
    elim (or_cases (matches p (n ∷ u)) (not (n == slash) && some_rest (matches p) u) is) [
      | inl here ↦ greedy j p o s (n ∷ u) fits one rest here
      | inr further ↦
          let parts = and_parts (not (n == slash)) (some_rest (matches p) u) further in
          let more : s ++ n ∷ u ≡ (s ++ n ∷ []) ++ u = sym (append_assoc s (n ∷ []) u) in
          let so : Fits j p (o ∷ ((s ++ n ∷ []) ++ u)) = rw (sym more) fits in
          rw more (later u j p o (s ++ n ∷ []) so one (plain_more s n rest (not-true (n == slash) parts.0)) parts.1)
    ]

-- a rest matches behind the first octet, which is no slash
pub further : (j : ℕ) (p : List ℕ) (o : ℕ) (t : List ℕ) → Fits j p (o ∷ t) → (not (o == slash) && some_rest (matches p) t) ≡ true → matches p (o ∷ t) ≡ true
further j p o t fits is =
    let parts = and_parts (not (o == slash)) (some_rest (matches p) t) is in
    fits_matches j p (o ∷ t) fits ∙ later t j p o [] fits (not-true (o == slash) parts.0) refl parts.1

-- one of two that the other leads to
pub or_one : (x y : Bool) → (y ≡ true → x ≡ true) → (x || y) ≡ x
or_one true y leads = refl
or_one false true leads = sym (leads refl)
or_one false false leads = refl

-- so from a star that was reached on, some rest matches where some rest of before did
pub onward : (j : ℕ) (p t : List ℕ) → Fits j p t → some_rest (matches p) t ≡ some_rest (matches (drop 1 (drop j p))) (drop j t)
onward j p [] fits = fits_matches j p [] fits
onward j p (o ∷ t) fits =
    or_one (matches p (o ∷ t)) (not (o == slash) && some_rest (matches p) t) (further j p o t fits) ∙ fits_matches j p (o ∷ t) fits

-- where nothing is met here and the text has no first octet, or a slash, no rest matches; and else what is behind that octet decides
pub floated : (p t : List ℕ) → matches p t ≡ false → is_floating t ≡ true → some_rest (matches p) (drop 1 t) ≡ some_rest (matches p) t
floated p [] is floats = absurd (both_ways false refl floats)
floated p (o ∷ t) is floats = grind arith

pub settled : (p t : List ℕ) → matches p t ≡ false → is_floating t ≡ false → false ≡ some_rest (matches p) t
settled p [] is floats = sym is
settled p (o ∷ t) is floats = grind arith

-- less is left behind a star
pub shorter : (j : ℕ) (p t : List ℕ) → Fits j p t → length (drop 1 (drop j p)) + length (drop j t) < length p + length t
shorter zero [] t fits = absurd fits
shorter zero (c ∷ p) t fits = omega arith
shorter (suc j) [] t fits = absurd fits
shorter (suc j) (c ∷ p) [] fits = absurd fits
shorter (suc j) (c ∷ p) (o ∷ t) fits = let h = shorter j p t fits.2 in omega (arith, h)

-- and less behind an octet
pub shorter_text : (p t : List ℕ) → is_floating t ≡ true → length p + length (drop 1 t) < length p + length t
shorter_text p [] floats = absurd (both_ways false refl floats)
shorter_text p (o ∷ t) floats = omega arith
