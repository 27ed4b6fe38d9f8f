-- What a wire in type A reads as is the row of its units.
use Rattle.std.proofs.Common.{◌≡◌, ◌≢◌, ℕ, List, [], ◌∷◌, ◌++◌, Bool, true, false, ◌==◌, ◌↔◌, inl, inr, map, refl, ap, sym, subst, ◌∙◌, append-nil}
use Rattle.std.specs.List.{flat_map}
use Rattle.std.proofs.lemmas.Bool.{eqb-true, eqb-false, ne_eqb}
use Rattle.ftp_repr.specs.Ascii.{asc, plain, settled, AsciiUnit, line_end, carriage_return, other, unit_wire, unit_octet, PairsWithNoReturn, AreUnits, IsAscii}
use Rattle.ftp_repr.specs.Receiving.{ascii_gives, held_octets}
use Rattle.ftp_repr.proofs.AsciiLemmas.{decided, plain-nil, plain-cr, plain-line, plain-return, plain-lone, plain-other, plain-asc}
use Rattle.ftp_repr.proofs.TakingLemmas.{ascii_row, held_after, row_free, whole_free, row_more, held_more}

lone_return : (w : List ℕ) → PairsWithNoReturn w → plain (13 ∷ w) ≡ 13 ∷ plain w
lone_return [] h = plain-cr ∙ ap (λ l. 13 ∷ l) (sym plain-nil)
lone_return (d ∷ w) h = plain-lone d w (ne_eqb d 10 h.0) (ne_eqb d 0 h.1)

by_itself : (c : ℕ) (w : List ℕ) → (c ≡ 13 → PairsWithNoReturn w) → plain (c ∷ w) ≡ c ∷ plain w
by_itself c w h =
    elim (decided (c == 13)) [
      | inl e ↦ (let P : ℕ → Type 0 = λ n. plain (n ∷ w) ≡ n ∷ plain w in
          subst P (sym (eqb-true c 13 e)) (lone_return w (h (eqb-true c 13 e))))
      | inr e ↦ plain-other c w e
    ]

units_read : (us : List AsciiUnit) → AreUnits us → plain (flat_map unit_wire us) ≡ map unit_octet us
units_read [] h = plain-nil
units_read (line_end ∷ us) h = plain-line (flat_map unit_wire us) ∙ ap (λ l. 10 ∷ l) (units_read us h)
units_read (carriage_return ∷ us) h = plain-return (flat_map unit_wire us) ∙ ap (λ l. 13 ∷ l) (units_read us h)
units_read (other c ∷ us) h = by_itself c (flat_map unit_wire us) h.0 ∙ ap (λ l. c ∷ l) (units_read us h.1)

add_line : (w b : List ℕ) → IsAscii w b → IsAscii (13 ∷ 10 ∷ w) (10 ∷ b)
add_line w b h =
    record { units = line_end ∷ h.units; are = h.are; wire = ap (λ l. 13 ∷ 10 ∷ l) h.wire; file = ap (λ l. 10 ∷ l) h.file }

add_return : (w b : List ℕ) → IsAscii w b → IsAscii (13 ∷ 0 ∷ w) (13 ∷ b)
add_return w b h =
    record { units = carriage_return ∷ h.units; are = h.are; wire = ap (λ l. 13 ∷ 0 ∷ l) h.wire; file = ap (λ l. 13 ∷ l) h.file }

add_other : (c : ℕ) (w b : List ℕ) → (c ≡ 13 → PairsWithNoReturn w) → IsAscii w b → IsAscii (c ∷ w) (c ∷ b)
add_other c w b alone h =
    record {
      units = other c ∷ h.units;
      are = (λ e. subst PairsWithNoReturn h.wire (alone e), h.are);
      wire = ap (λ l. c ∷ l) h.wire;
      file = ap (λ l. c ∷ l) h.file;
    }

-- CR and an octet behind it
after_return : (d : ℕ) (w : List ℕ) → IsAscii w (plain w) → IsAscii (d ∷ w) (plain (d ∷ w)) → IsAscii (13 ∷ d ∷ w) (plain (13 ∷ d ∷ w))
after_return d w rest all =
    let P : ℕ → Type 0 = λ n. IsAscii (13 ∷ n ∷ w) (plain (13 ∷ n ∷ w)) in
    let Q : List ℕ → List ℕ → Type 0 = λ v l. IsAscii v l in
    elim (decided (d == 10)) [
      | inl e ↦ subst P (sym (eqb-true d 10 e)) (subst (Q (13 ∷ 10 ∷ w)) (sym (plain-line w)) (add_line w (plain w) rest))
      | inr e ↦ elim (decided (d == 0)) [
        | inl g ↦ subst P (sym (eqb-true d 0 g)) (subst (Q (13 ∷ 0 ∷ w)) (sym (plain-return w)) (add_return w (plain w) rest))
        | inr g ↦ subst (Q (13 ∷ d ∷ w)) (sym (plain-lone d w e g))
            (add_other 13 (d ∷ w) (plain (d ∷ w)) (λ _. (eqb-false d 10 e, eqb-false d 0 g)) all)
      ]
    ]

pub plain_is : (w : List ℕ) → IsAscii w (plain w)
plain_is [] = record { units = []; are = tt; wire = refl; file = plain-nil }
plain_is (c ∷ []) =
    let P : List ℕ → Type 0 = λ l. IsAscii (c ∷ []) l in
    subst P (sym (by_itself c [] (λ _. tt))) (add_other c [] (plain []) (λ _. tt) (plain_is []))
plain_is (c ∷ d ∷ w) =
    elim (decided (c == 13)) [
      | inl e ↦ (let P : ℕ → Type 0 = λ n. IsAscii (n ∷ d ∷ w) (plain (n ∷ d ∷ w)) in
          subst P (sym (eqb-true c 13 e)) (after_return d w (plain_is w) (plain_is (d ∷ w))))
      | inr e ↦ (let Q : List ℕ → Type 0 = λ l. IsAscii (c ∷ d ∷ w) l in
          let never : c ≡ 13 → PairsWithNoReturn (d ∷ w) = λ is. absurd (eqb-false c 13 e is) in
          subst Q (sym (plain-other c (d ∷ w) e)) (add_other c (d ∷ w) (plain (d ∷ w)) never (plain_is (d ∷ w))))
    ]

-- a wire is read as one file alone
pub read_as : (w b : List ℕ) → IsAscii w b ↔ (plain w ≡ b)
read_as w b =
    let P : List ℕ → Type 0 = λ l. IsAscii w l in
    (λ h. ap plain h.wire ∙ units_read h.units h.are ∙ sym h.file, λ e. subst P e (plain_is w))

pub asc_read : (b : List ℕ) → plain (asc b) ≡ b
asc_read b = ap plain (sym (append-nil (asc b))) ∙ plain-asc b [] ∙ ap (λ l. b ++ l) plain-nil ∙ append-nil b

-- a CR more, held or not before it
one_return : (h : Bool) → ascii_gives h 13 ≡ held_octets h
one_return true = refl
one_return false = refl

pub settled_return : (w : List ℕ) → settled (w ++ 13 ∷ []) ≡ plain w
settled_return w =
    sym (row_free (w ++ 13 ∷ []))
    ∙ row_more false w 13
    ∙ ap (λ l. ascii_row false w ++ l) (one_return (held_after false w))
    ∙ whole_free w

pub settled_other : (w : List ℕ) (c : ℕ) → c ≢ 13 → settled (w ++ c ∷ []) ≡ plain (w ++ c ∷ [])
settled_other w c h =
    let v = w ++ c ∷ [] in
    let free : held_after false v ≡ false = held_more false w c ∙ ne_eqb c 13 h in
    sym (row_free v) ∙ sym (append-nil (ascii_row false v)) ∙ ap (λ q. ascii_row false v ++ held_octets q) (sym free) ∙ whole_free v
