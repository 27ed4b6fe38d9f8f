-- Type A octet by octet is type A over whole lists.
use Rattle.std.proofs.Common.{◌≡◌, ℕ, List, [], ◌∷◌, ◌++◌, Bool, true, false, ◌==◌, inl, inr, refl, ap, sym, subst, ◌∙◌, append_assoc, append-nil}
use Rattle.std.proofs.lemmas.Bool.{eqb-true}
use Rattle.ftp_repr.specs.Ascii.{plain, settled}
use Rattle.ftp_repr.specs.Receiving.{ascii_gives, held_octets}
use Rattle.ftp_repr.proofs.AsciiLemmas.{decided, plain-nil, plain-cr, plain-line, plain-return, plain-lone, plain-other, settled-nil, settled-cr, settled-line, settled-return, settled-lone, settled-other}

-- what octets settle with a CR before them that is held or not, and whether a CR is held behind them
abbrev pub ascii_row : Bool → List ℕ → List ℕ
ascii_row held [] = []
ascii_row held (c ∷ w) = ascii_gives held c ++ ascii_row (c == 13) w

abbrev pub held_after : Bool → List ℕ → Bool
held_after held [] = held
held_after held (c ∷ w) = held_after (c == 13) w

-- the reader by octets gives what whole lists settle
mutual
  pub row_free : (w : List ℕ) → ascii_row false w ≡ settled w
  row_free [] = sym settled-nil
  row_free (c ∷ w) =
      elim (decided (c == 13)) [
        | inl e ↦ (let P : ℕ → Type 0 = λ n. ascii_row false (n ∷ w) ≡ settled (n ∷ w) in subst P (sym (eqb-true c 13 e)) (row_held w))
        | inr e ↦ rw e (ap (λ l. c ∷ l) (row_free w) ∙ sym (settled-other c w e))
      ]

  pub row_held : (w : List ℕ) → ascii_row true w ≡ settled (13 ∷ w)
  row_held [] = sym settled-cr
  row_held (d ∷ w) =
      let P : ℕ → Type 0 = λ n. ascii_row true (n ∷ w) ≡ settled (13 ∷ n ∷ w) in
      elim (decided (d == 10)) [
        | inl e ↦ subst P (sym (eqb-true d 10 e)) (ap (λ l. 10 ∷ l) (row_free w) ∙ sym (settled-line w))
        | inr e ↦ elim (decided (d == 0)) [
          | inl g ↦ subst P (sym (eqb-true d 0 g)) (ap (λ l. 13 ∷ l) (row_free w) ∙ sym (settled-return w))
          | inr g ↦ elim (decided (d == 13)) [
            | inl h ↦ subst P (sym (eqb-true d 13 h)) (ap (λ l. 13 ∷ l) (row_held w) ∙ sym (settled-lone 13 w refl refl))
            | inr h ↦ rw (e, g, h) (ap (λ l. 13 ∷ d ∷ l) (row_free w) ∙ sym (settled-lone d w e g ∙ ap (λ l. 13 ∷ l) (settled-other d w h)))
          ]
        ]
      ]

-- what is given and the held CR are what an ended list reads as
abbrev pub row_whole : Bool → List ℕ → List ℕ
row_whole h w = ascii_row h w ++ held_octets (held_after h w)

mutual
  pub whole_free : (w : List ℕ) → row_whole false w ≡ plain w
  whole_free [] = sym plain-nil
  whole_free (c ∷ w) =
      elim (decided (c == 13)) [
        | inl e ↦ (let P : ℕ → Type 0 = λ n. row_whole false (n ∷ w) ≡ plain (n ∷ w) in subst P (sym (eqb-true c 13 e)) (whole_held w))
        | inr e ↦ rw e (ap (λ l. c ∷ l) (whole_free w) ∙ sym (plain-other c w e))
      ]

  pub whole_held : (w : List ℕ) → row_whole true w ≡ plain (13 ∷ w)
  whole_held [] = sym plain-cr
  whole_held (d ∷ w) =
      let P : ℕ → Type 0 = λ n. row_whole true (n ∷ w) ≡ plain (13 ∷ n ∷ w) in
      elim (decided (d == 10)) [
        | inl e ↦ subst P (sym (eqb-true d 10 e)) (ap (λ l. 10 ∷ l) (whole_free w) ∙ sym (plain-line w))
        | inr e ↦ elim (decided (d == 0)) [
          | inl g ↦ subst P (sym (eqb-true d 0 g)) (ap (λ l. 13 ∷ l) (whole_free w) ∙ sym (plain-return w))
          | inr g ↦ elim (decided (d == 13)) [
            | inl h ↦ subst P (sym (eqb-true d 13 h)) (ap (λ l. 13 ∷ l) (whole_held w) ∙ sym (plain-lone 13 w refl refl))
            | inr h ↦ rw (e, g, h) (ap (λ l. 13 ∷ d ∷ l) (whole_free w) ∙ sym (plain-lone d w e g ∙ ap (λ l. 13 ∷ l) (plain-other d w h)))
          ]
        ]
      ]

-- one octet more
pub row_more : (h : Bool) (w : List ℕ) (c : ℕ) → ascii_row h (w ++ c ∷ []) ≡ ascii_row h w ++ ascii_gives (held_after h w) c
row_more h [] c = append-nil (ascii_gives h c)
row_more h (d ∷ w) c =
    ap (λ l. ascii_gives h d ++ l) (row_more (d == 13) w c)
    ∙ sym (append_assoc (ascii_gives h d) (ascii_row (d == 13) w) (ascii_gives (held_after (d == 13) w) c))

pub held_more : (h : Bool) (w : List ℕ) (c : ℕ) → held_after h (w ++ c ∷ []) ≡ (c == 13)
held_more h [] c = refl
held_more h (d ∷ w) c = held_more (d == 13) w c
