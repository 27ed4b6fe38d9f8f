-- Texts that are cut at the first octet that passes a test, and values that lead to values.
use Rattle.std.proofs.Common.{◌≡◌, ℕ, suc, ◌+◌, ◌⊎◌, inl, inr, List, [], ◌∷◌, ◌++◌, Bool, true, false, ◌||◌, Option, Some, None, refl, sym, ap, subst, ◌∙◌, arith, take, drop}
use Rattle.std.specs.List.{position_or_len, list_any, before_first, after_first, AllByRecursion}
use Rattle.std.specs.Option.{is_some, option_map, unwrap_or}
use Rattle.ftp_facts.specs.Value.{and_then}

-- ---- values

pub then_is : {X Y : Type 0} (o : Option X) (f : X → Option Y) (y : Y) → and_then o f ≡ Some y → (x : X) × (o ≡ Some x) × (f x ≡ Some y)
then_is None f y e = absurd (let b : false ≡ true = ap is_some e in cc)
then_is (Some x) f y e = (x, refl, e)

pub is_then : {X Y : Type 0} (o : Option X) (f : X → Option Y) (x : X) (y : Y) → o ≡ Some x → f x ≡ Some y → and_then o f ≡ Some y
is_then o f x y e g = ap (λ p. and_then p f) e ∙ g

pub map_is : {X Y : Type 0} (f : X → Y) (o : Option X) (y : Y) → option_map f o ≡ Some y → (x : X) × (o ≡ Some x) × (f x ≡ y)
map_is f None y e = absurd (let b : false ≡ true = ap is_some e in cc)
map_is f (Some x) y e = (x, refl, ap (λ o. unwrap_or o (f x)) e)

-- ---- a text cut at the first octet that passes a test

abbrev pub Fails : (ℕ → Bool) → List ℕ → Type 0
Fails p text = AllByRecursion (λ c. p c ≡ false) text

-- either no octet passes, or the text is what stands before the first, that one, and what stands behind it
pub record IsCut (p : ℕ → Bool) (text : List ℕ) : Type 0 where
  pub octet : ℕ
  pub passes : p octet ≡ true
  pub fails : Fails p (before_first p text)
  pub text_is : text ≡ before_first p text ++ octet ∷ after_first p text

place_behind : (p : ℕ → Bool) (c : ℕ) (text : List ℕ) → p c ≡ false → position_or_len p (c ∷ text) ≡ suc (position_or_len p text)
place_behind p c text e = rw e (omega arith)

pub before_other : (p : ℕ → Bool) (c : ℕ) (text : List ℕ) → p c ≡ false → before_first p (c ∷ text) ≡ c ∷ before_first p text
before_other p c text e = ap (λ n. take n (c ∷ text)) (place_behind p c text e)

pub after_other : (p : ℕ → Bool) (c : ℕ) (text : List ℕ) → p c ≡ false → after_first p (c ∷ text) ≡ after_first p text
after_other p c text e =
    let n : ℕ = position_or_len p text in
    let one : suc n + 1 ≡ suc (n + 1) = omega arith in
    ap (λ m. drop (m + 1) (c ∷ text)) (place_behind p c text e) ∙ ap (λ m. drop m (c ∷ text)) one

pub cut_first : (p : ℕ → Bool) (text : List ℕ) → (Fails p text × (after_first p text ≡ [])) ⊎ IsCut p text
cut_first p [] = inl (tt, refl)
cut_first p (c ∷ text) =
    elim (either (p c)) [
      | inl e ↦ inr (record { octet = c; passes = e; fails = rw e tt; text_is = rw e refl })
      | inr e ↦
          let before = before_other p c text e in
          let behind = after_other p c text e in
          elim (cut_first p text) [
            | inl n ↦ inl ((e, n.0), behind ∙ n.1)
            | inr k ↦
                inr (record {
                  octet = k.octet;
                  passes = k.passes;
                  fails = (let P : List ℕ → Type 0 = Fails p in subst P (sym before) (e, k.fails));
                  text_is = ap (λ l. c ∷ l) k.text_is ∙ (let b = sym before in let a = sym behind in λ i. b i ++ k.octet ∷ a i);
                })
          ]
    ]
  where
    either : (b : Bool) → (b ≡ true) ⊎ (b ≡ false)
    either true = inl refl
    either false = inr refl

pub first_cut : (p : ℕ → Bool) (before : List ℕ) (octet : ℕ) (behind : List ℕ) → Fails p before → p octet ≡ true
    → (before_first p (before ++ octet ∷ behind) ≡ before) × (after_first p (before ++ octet ∷ behind) ≡ behind)
first_cut p [] octet behind fails passes = rw passes (refl, refl)
first_cut p (c ∷ before) octet behind fails passes =
    let rest = first_cut p before octet behind fails.1 passes in
    (before_other p c (before ++ octet ∷ behind) fails.0 ∙ ap (λ l. c ∷ l) rest.0, after_other p c (before ++ octet ∷ behind) fails.0 ∙ rest.1)

pub none_passes : (p : ℕ → Bool) (text : List ℕ) → Fails p text → list_any p text ≡ false
none_passes p [] fails = refl
none_passes p (c ∷ text) fails = rw fails.0 (none_passes p text fails.1)

pub one_passes : (p : ℕ → Bool) (before : List ℕ) (octet : ℕ) (behind : List ℕ) → p octet ≡ true → list_any p (before ++ octet ∷ behind) ≡ true
one_passes p [] octet behind passes = rw passes refl
one_passes p (c ∷ before) octet behind passes = either_way (p c) (list_any p (before ++ octet ∷ behind)) (one_passes p before octet behind passes)
  where
    either_way : (a b : Bool) → b ≡ true → (a || b) ≡ true
    either_way true b is = refl
    either_way false b is = is
