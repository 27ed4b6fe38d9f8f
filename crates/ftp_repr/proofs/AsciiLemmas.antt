-- Type A: what was written is read again.
use Rattle.std.proofs.Common.{◌≡◌, ℕ, List, [], ◌∷◌, ◌++◌, Bool, true, false, ◌==◌, ◌⊎◌, inl, inr, refl, ap, sym, subst, ◌∙◌, append_assoc}
use Rattle.std.proofs.lemmas.Bool.{eqb-true}
use Rattle.ftp_repr.specs.Ascii.{ascii_octet, asc, plain, settled}

pub decided : (b : Bool) → (b ≡ true) ⊎ (b ≡ false)
decided true = inl refl
decided false = inr refl

-- whole lists, a unit at a time
pub plain-nil : plain [] ≡ []
unfolding plain
plain-nil = refl

pub plain-cr : plain (13 ∷ []) ≡ 13 ∷ []
unfolding plain
plain-cr = refl

pub plain-line : (w : List ℕ) → plain (13 ∷ 10 ∷ w) ≡ 10 ∷ plain w
unfolding plain
plain-line w = refl

pub plain-return : (w : List ℕ) → plain (13 ∷ 0 ∷ w) ≡ 13 ∷ plain w
unfolding plain
plain-return w = refl

pub plain-lone : (d : ℕ) (w : List ℕ) → (d == 10) ≡ false → (d == 0) ≡ false → plain (13 ∷ d ∷ w) ≡ 13 ∷ plain (d ∷ w)
unfolding plain
plain-lone d w e g = rw (e, g) refl

pub plain-other : (c : ℕ) (w : List ℕ) → (c == 13) ≡ false → plain (c ∷ w) ≡ c ∷ plain w
unfolding plain
plain-other c [] e = refl
plain-other c (d ∷ w) e = rw e refl

-- cut lists alike
pub settled-nil : settled [] ≡ []
unfolding settled
settled-nil = refl

pub settled-cr : settled (13 ∷ []) ≡ []
unfolding settled
settled-cr = refl

pub settled-line : (w : List ℕ) → settled (13 ∷ 10 ∷ w) ≡ 10 ∷ settled w
unfolding settled
settled-line w = refl

pub settled-return : (w : List ℕ) → settled (13 ∷ 0 ∷ w) ≡ 13 ∷ settled w
unfolding settled
settled-return w = refl

pub settled-lone : (d : ℕ) (w : List ℕ) → (d == 10) ≡ false → (d == 0) ≡ false → settled (13 ∷ d ∷ w) ≡ 13 ∷ settled (d ∷ w)
unfolding settled
settled-lone d w e g = rw (e, g) refl

pub settled-other : (c : ℕ) (w : List ℕ) → (c == 13) ≡ false → settled (c ∷ w) ≡ c ∷ settled w
unfolding settled
settled-other c [] e = rw e refl
settled-other c (d ∷ w) e = rw e refl

plain_at_line : (c : ℕ) (w : List ℕ) → c ≡ 10 → plain (ascii_octet c ++ w) ≡ c ∷ plain w
plain_at_line c w e = let P : ℕ → Type 0 = λ n. plain (ascii_octet n ++ w) ≡ n ∷ plain w in subst P (sym e) (plain-line w)

plain_at_return : (c : ℕ) (w : List ℕ) → c ≡ 13 → plain (ascii_octet c ++ w) ≡ c ∷ plain w
plain_at_return c w e = let P : ℕ → Type 0 = λ n. plain (ascii_octet n ++ w) ≡ n ∷ plain w in subst P (sym e) (plain-return w)

plain_at_other : (c : ℕ) (w : List ℕ) → (c == 10) ≡ false → (c == 13) ≡ false → plain (ascii_octet c ++ w) ≡ c ∷ plain w
plain_at_other c w e f = rw (e, f) (plain-other c w f)

-- an octet that was written
pub plain_unit : (c : ℕ) (w : List ℕ) → plain (ascii_octet c ++ w) ≡ c ∷ plain w
plain_unit c w =
    elim (decided (c == 10)) [
      | inl e ↦ plain_at_line c w (eqb-true c 10 e)
      | inr e ↦ elim (decided (c == 13)) [
        | inl f ↦ plain_at_return c w (eqb-true c 13 f)
        | inr f ↦ plain_at_other c w e f
      ]
    ]

-- what was written in type A is read again, whatever follows it
pub plain-asc : (b w : List ℕ) → plain (asc b ++ w) ≡ b ++ plain w
plain-asc [] w = refl
plain-asc (c ∷ b) w =
    ap plain (append_assoc (ascii_octet c) (asc b) w) ∙ plain_unit c (asc b ++ w) ∙ ap (λ l. c ∷ l) (plain-asc b w)
