-- Places of a file and the octets that are before them on its wire.
use Rattle.std.proofs.Common.{◌≡◌, ℕ, zero, suc, ◌+◌, ◌-◌, ◌<◌, ◌≤◌, List, [], ◌∷◌, ◌++◌, ◌⊎◌, inl, inr, true, false, ◌==◌, length, take, drop, refl, ap, sym, subst, ◌∙◌, arith}
use Rattle.std.proofs.lemmas.List.{length-append, take-append-le, take-append-drop, take_all, length-take-le}
use Rattle.std.proofs.Math.Seq.{take-append-add}
use Rattle.std.proofs.lemmas.List.Concat.{flat_map-append}
use Rattle.ftp_repr.specs.Ascii.{ascii_octet}
use Rattle.ftp_repr.specs.Signs.{wire_octets, wire_row}
use Rattle.ftp_repr.specs.Runs.{IsRun, is_changed}
use Rattle.ftp_repr.specs.Skipping.{IsPlaceOfOffset, Skips, further}
use Rattle.ftp_settings.specs.declared.representation.Kind.{Kind}
use Rattle.ftp_settings.specs.declared.representation.Kind.TheVariants.{Ascii, Image}
use Rattle.ftp_settings.specs.declared.representation.Structure.TheVariants.{File}
use Rattle.ftp_repr.specs.declared.skipping.Skipped.{Skipped}
use Rattle.ftp_repr.specs.declared.skipping.Skipped.TheVariants.{Within, Left, Inside}
use Rattle.ftp_repr.proofs.AsciiLemmas.{decided}
use Rattle.ftp_repr.proofs.RunLemmas.{behind_first}
use Rattle.ftp_repr.proofs.SignLemmas.{neither}

-- how many octets the first n octets of a file go as
abbrev pub goes : Kind → List ℕ → ℕ → ℕ
goes k b n = length (wire_row k (take n b))

ascii_some : (c : ℕ) → 0 < length (ascii_octet c)
ascii_some c =
    elim (decided (c == 10)) [
      | inl e ↦ rw e (omega arith)
      | inr e ↦ elim (decided (c == 13)) [ inl f ↦ rw (e, f) (omega arith) | inr f ↦ rw (e, f) (omega arith) ]
    ]

-- each octet goes as one at least
octet_some : (k : Kind) (c : ℕ) → 0 < length (wire_octets k c)
octet_some Ascii c = ascii_some c
octet_some Image c = omega arith

row_cons : (k : Kind) (c : ℕ) (b : List ℕ) → length (wire_row k (c ∷ b)) ≡ length (wire_octets k c) + length (wire_row k b)
row_cons k c b = length-append (wire_octets k c) (wire_row k b)

pub row_append : (k : Kind) (b d : List ℕ) → length (wire_row k (b ++ d)) ≡ length (wire_row k b) + length (wire_row k d)
row_append k b d = ap length (flat_map-append (wire_octets k) b d) ∙ length-append (wire_row k b) (wire_row k d)

-- further places are not before others on the wire
pub goes_up : (k : Kind) (b : List ℕ) (p q : ℕ) → p ≤ q → goes k b p ≤ goes k b q
goes_up k b zero q h = omega arith
goes_up k [] (suc p) zero h = omega arith
goes_up k [] (suc p) (suc q) h = omega arith
goes_up k (c ∷ b) (suc p) zero h = absurd (omega arith)
goes_up k (c ∷ b) (suc p) (suc q) h =
    let rest : goes k b p ≤ goes k b q = goes_up k b p q (omega arith) in
    omega (arith, rest, row_cons k c (take p b), row_cons k c (take q b))

pub goes_all : (k : Kind) (b : List ℕ) → goes k b (length b) ≡ length (wire_row k b)
goes_all k b = ap (λ l. length (wire_row k l)) (take_all (length b) b (omega arith))

-- one place
behind_octet : (k : Kind) (c : ℕ) (b : List ℕ) (n p : ℕ) → IsPlaceOfOffset k (c ∷ b) n (suc p) → IsPlaceOfOffset k b (n - length (wire_octets k c)) p
behind_octet k c b n p h = record { within = omega (arith, h.within); goes = omega (arith, h.goes, row_cons k c (take p b)) }

pub place_once : (k : Kind) (b : List ℕ) (n p q : ℕ) → IsPlaceOfOffset k b n p → IsPlaceOfOffset k b n q → p ≡ q
place_once k b n zero zero h g = refl
place_once k [] n (suc p) q h g = absurd (omega (arith, h.within))
place_once k [] n zero (suc q) h g = absurd (omega (arith, g.within))
place_once k (c ∷ b) n zero (suc q) h g = absurd (omega (arith, h.goes, g.goes, row_cons k c (take q b), octet_some k c))
place_once k (c ∷ b) n (suc p) zero h g = absurd (omega (arith, h.goes, g.goes, row_cons k c (take p b), octet_some k c))
place_once k (c ∷ b) n (suc p) (suc q) h g =
    ap suc (place_once k b (n - length (wire_octets k c)) p q (behind_octet k c b n p h) (behind_octet k c b n q g))

-- a place stands no further on the wire than all goes
pub place_below : (k : Kind) (b : List ℕ) (n p : ℕ) → IsPlaceOfOffset k b n p → n ≤ length (wire_row k b)
place_below k b n p h = omega (arith, h.goes, goes_up k b p (length b) h.within, goes_all k b)

-- one answer
pub skips_once : (k : Kind) (b : List ℕ) (n : ℕ) (r s : Skipped) → Skips k b n r → Skips k b n s → r ≡ s
skips_once k b n (Within p) (Within q) h g = ap Within (place_once k b n p q h g)
skips_once k b n (Within p) (Left m) h g = absurd (omega (arith, place_below k b n p h, g.0, g.1))
skips_once k b n (Within p) Inside h g = absurd (g.1 p h)
skips_once k b n (Left m) (Within q) h g = absurd (omega (arith, place_below k b n q g, h.0, h.1))
skips_once k b n (Left m) (Left l) h g = ap Left (omega (arith, h.1, g.1))
skips_once k b n (Left m) Inside h g = absurd (omega (arith, h.1, g.0))
skips_once k b n Inside (Within q) h g = absurd (h.1 q g)
skips_once k b n Inside (Left l) h g = absurd (omega (arith, h.0, g.1))
skips_once k b n Inside Inside h g = refl

-- a place of the front of a row is one of the row, and one of the row is of the front or behind it
take_front : (b d : List ℕ) (p : ℕ) → p ≤ length b → take p (b ++ d) ≡ take p b
take_front b d p h = take-append-le p b d h

place_front : (k : Kind) (b d : List ℕ) (n p : ℕ) → IsPlaceOfOffset k b n p → IsPlaceOfOffset k (b ++ d) n p
place_front k b d n p h = record {
  within = omega (arith, h.within, length-append b d);
  goes = ap (λ l. length (wire_row k l)) (take_front b d p h.within) ∙ h.goes;
}

goes_back : (k : Kind) (b d : List ℕ) (p : ℕ) → goes k (b ++ d) (length b + p) ≡ length (wire_row k b) + goes k d p
goes_back k b d p = ap (λ l. length (wire_row k l)) (take-append-add b d p) ∙ row_append k b (take p d)

place_back : (k : Kind) (b d : List ℕ) (n m p : ℕ) → length (wire_row k b) + m ≡ n → IsPlaceOfOffset k d m p → IsPlaceOfOffset k (b ++ d) n (length b + p)
place_back k b d n m p e h = record {
  within = omega (arith, h.within, length-append b d);
  goes = goes_back k b d p ∙ omega (arith, h.goes, e);
}

front_place : (k : Kind) (b d : List ℕ) (n p : ℕ) → p ≤ length b → IsPlaceOfOffset k (b ++ d) n p → IsPlaceOfOffset k b n p
front_place k b d n p less h = record {
  within = less;
  goes = ap (λ l. length (wire_row k l)) (sym (take_front b d p less)) ∙ h.goes;
}

back_place : (k : Kind) (b d : List ℕ) (n m p : ℕ) → length (wire_row k b) + m ≡ n → IsPlaceOfOffset k (b ++ d) n (length b + p) → IsPlaceOfOffset k d m p
back_place k b d n m p e h = record {
  within = omega (arith, h.within, length-append b d);
  goes = omega (arith, h.goes, goes_back k b d p, e);
}

in_front_or_back : (a p : ℕ) → (p ≤ a) ⊎ ((q : ℕ) × (p ≡ a + q))
in_front_or_back zero p = inr (p, omega arith)
in_front_or_back (suc a) zero = inl (omega arith)
in_front_or_back (suc a) (suc p) = elim (in_front_or_back a p) [ inl h ↦ inl (omega arith) | inr f ↦ inr (f.0, omega (arith, f.1)) ]

-- what a front decides stays
pub within_stays : (k : Kind) (b more : List ℕ) (n p : ℕ) → Skips k b n (Within p) → Skips k (b ++ more) n (Within p)
within_stays k b more n p h = place_front k b more n p h

no_place_stays : (k : Kind) (b more : List ℕ) (n : ℕ) → Skips k b n Inside → (p : ℕ) → IsPlaceOfOffset k (b ++ more) n p → ⊥
no_place_stays k b more n h p g =
    elim (in_front_or_back (length b) p) [
      | inl less ↦ h.1 p (front_place k b more n p less g)
      | inr q ↦ omega (arith, g.goes, h.0, goes_back k b more q.0, ap (goes k (b ++ more)) q.1)
    ]

pub inside_stays : (k : Kind) (b more : List ℕ) (n : ℕ) → Skips k b n Inside → Skips k (b ++ more) n Inside
inside_stays k b more n h = (omega (arith, h.0, row_append k b more), no_place_stays k b more n h)

-- what is left is for what follows
no_place_back : (k : Kind) (b d : List ℕ) (n m : ℕ) → Skips k b n (Left m) → Skips k d m Inside → (p : ℕ) → IsPlaceOfOffset k (b ++ d) n p → ⊥
no_place_back k b d n m h g p i =
    elim (in_front_or_back (length b) p) [
      | inl less ↦ omega (arith, h.0, h.1, place_below k b n p (front_place k b d n p less i))
      | inr q ↦ let P : ℕ → Type 0 = λ x. IsPlaceOfOffset k (b ++ d) n x in g.1 q.0 (back_place k b d n m q.0 h.1 (subst P q.1 i))
    ]

pub skips_on : (k : Kind) (b d : List ℕ) (n m : ℕ) (r : Skipped) → Skips k b n (Left m) → Skips k d m r → Skips k (b ++ d) n (further (length b) r)
skips_on k b d n m (Within p) h g = place_back k b d n m p h.1 g
skips_on k b d n m (Left l) h g = (g.0, omega (arith, h.1, g.1, row_append k b d))
skips_on k b d n m Inside h g = (omega (arith, h.1, g.0, row_append k b d), no_place_back k b d n m h g)

-- a run in type A, and the octet behind it that goes as two
abbrev pub IsPlain : List ℕ → ℕ → Type 0
IsPlain b run = IsRun (is_changed Ascii File) b run

ascii_same : (c : ℕ) → is_changed Ascii File c ≡ false → ascii_octet c ≡ c ∷ []
ascii_same c h = let e = neither (c == 10) (c == 13) h in rw (e.0, e.1) refl

ascii_pair : (c : ℕ) → is_changed Ascii File c ≡ true → length (ascii_octet c) ≡ 2
ascii_pair c h =
    elim (decided (c == 10)) [
      | inl e ↦ rw e refl
      | inr e ↦ elim (decided (c == 13)) [ inl f ↦ rw (e, f) refl | inr f ↦ let g = rw (e, f) at h in absurd (cc) ]
    ]

pub run_goes : (b : List ℕ) (run p : ℕ) → IsPlain b run → p ≤ run → goes Ascii b p ≡ p
run_goes b run zero r h = refl
run_goes [] run (suc p) r h = absurd (omega (arith, r.within))
run_goes (c ∷ b) zero (suc p) r h = absurd (omega arith)
run_goes (c ∷ b) (suc run) (suc p) r h =
    omega (
      arith,
      row_cons Ascii c (take p b),
      ap length (ascii_same c r.others.0),
      run_goes b run p (behind_first (is_changed Ascii File) c b run r) (omega arith),
    )

pub pair_goes : (b : List ℕ) (run : ℕ) → IsPlain b run → run < length b → goes Ascii b (suc run) ≡ run + 2
pair_goes [] run r h = absurd (omega arith)
pair_goes (c ∷ b) zero r h = row_cons Ascii c [] ∙ omega (arith, ascii_pair c (r.next h))
pair_goes (c ∷ b) (suc run) r h =
    omega (
      arith,
      row_cons Ascii c (take (suc run) b),
      ap length (ascii_same c r.others.0),
      pair_goes b run (behind_first (is_changed Ascii File) c b run r) (omega arith),
    )

pub run_place : (b : List ℕ) (run p : ℕ) → IsPlain b run → p ≤ run → IsPlaceOfOffset Ascii b p p
run_place b run p r h = record { within = omega (arith, r.within); goes = run_goes b run p r h }

below_or_above : (a p : ℕ) → (p ≤ a) ⊎ (suc a ≤ p)
below_or_above zero zero = inl (omega arith)
below_or_above zero (suc p) = inr (omega arith)
below_or_above (suc a) zero = inl (omega arith)
below_or_above (suc a) (suc p) = elim (below_or_above a p) [ inl h ↦ inl (omega arith) | inr h ↦ inr (omega arith) ]

no_place_in_pair : (b : List ℕ) (run : ℕ) → IsPlain b run → run < length b → (p : ℕ) → IsPlaceOfOffset Ascii b (run + 1) p → ⊥
no_place_in_pair b run r h p g =
    elim (below_or_above run p) [
      | inl less ↦ omega (arith, g.goes, run_goes b run p r less)
      | inr more ↦ omega (arith, g.goes, pair_goes b run r h, goes_up Ascii b (suc run) p more)
    ]

pub pair_inside : (b : List ℕ) (run : ℕ) → IsPlain b run → run < length b → Skips Ascii b (run + 1) Inside
pair_inside b run r h = (
  omega (arith, pair_goes b run r h, goes_up Ascii b (suc run) (length b) (omega arith), goes_all Ascii b),
  no_place_in_pair b run r h,
)

-- a row that is cut at a place
pub goes_cut : (b : List ℕ) (at p : ℕ) → at ≤ length b → goes Ascii b (at + p) ≡ goes Ascii b at + goes Ascii (drop at b) p
goes_cut b at p h =
    ap (λ l. goes Ascii l (at + p)) (sym (take-append-drop at b))
    ∙ ap (λ n. goes Ascii (take at b ++ drop at b) (n + p)) (sym (length-take-le at b h))
    ∙ goes_back Ascii (take at b) (drop at b) p

pub place_cut : (b : List ℕ) (at n m p : ℕ) → at ≤ length b → goes Ascii b at + m ≡ n → IsPlaceOfOffset Ascii (drop at b) m p → IsPlaceOfOffset Ascii b n (at + p)
place_cut b at n m p h e g =
    let P : List ℕ → Type 0 = λ l. IsPlaceOfOffset Ascii l n (at + p) in
    let Q : ℕ → Type 0 = λ x. IsPlaceOfOffset Ascii (take at b ++ drop at b) n (x + p) in
    subst P (take-append-drop at b) (subst Q (length-take-le at b h) (place_back Ascii (take at b) (drop at b) n m p e g))

pub inside_cut : (b : List ℕ) (at n m : ℕ) → 0 < m → goes Ascii b at + m ≡ n → Skips Ascii (drop at b) m Inside → Skips Ascii b n Inside
inside_cut b at n m h e g =
    let P : List ℕ → Type 0 = λ l. Skips Ascii l n Inside in
    subst P (take-append-drop at b) (skips_on Ascii (take at b) (drop at b) n m Inside (h, e) g)

pub goes_whole : (b : List ℕ) (at : ℕ) → length (wire_row Ascii b) ≡ goes Ascii b at + length (wire_row Ascii (drop at b))
goes_whole b at = ap (λ l. length (wire_row Ascii l)) (sym (take-append-drop at b)) ∙ row_append Ascii (take at b) (drop at b)
