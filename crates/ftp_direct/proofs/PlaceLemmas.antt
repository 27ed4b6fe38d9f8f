-- Where an offset leads to in a file, found piece by piece.
use Rattle.std.proofs.Common.{◌≡◌, ◌≢◌, ℕ, zero, suc, ◌+◌, ◌<◌, ◌≤◌, ◌⊎◌, inl, inr, Bool, true, false, ◌||◌, ◌==◌, List, [], ◌++◌, length, take, drop, nat_le, leb-false, Some, None, refl, ap, sym, subst, ◌∙◌, arith, zero-add, if◌then◌else◌}
use Rattle.std.specs.List.{find, range_with_len}
use Rattle.std.proofs.lemmas.Bool.{leb-true}
use Rattle.std.proofs.lemmas.List.{take-append-drop, length-drop, length-take-le}
use Rattle.std.proofs.lemmas.Bool.Decides.{Decides-eqb}
use Rattle.std.proofs.Math.Seq.{take-add}
use Rattle.ftp_repr.specs.Signs.{wire_row}
use Rattle.ftp_repr.specs.Skipping.{IsPlaceOfOffset, Skips}
use Rattle.ftp_repr.specs.declared.skipping.Skipped.TheVariants.{Within, Left, Inside}
use Rattle.ftp_repr.proofs.SkipLemmas.{goes_up, place_once, row_append, within_stays, inside_stays}
use Rattle.ftp_settings.specs.declared.representation.Kind.{Kind}
use Rattle.ftp_settings.specs.declared.representation.Kind.TheVariants.{Ascii, Image}
use Rattle.ftp_direct.specs.Direct.{counted_place, is_counted, place_in, refused_number, refused_size, size_in}
use Rattle.ftp_direct.specs.declared.refusal.Refusal.TheVariants.{Unavailable}
use Rattle.ftp_direct.specs.Laws.{OffsetsLead}
use Rattle.ftp_direct.proofs.SizeLemmas.{size_piece}

-- ---- the first number that passes, of so many from another on

found : (test : ℕ → Bool) (from count at : ℕ) → at < count → test (from + at) ≡ true → ((k : ℕ) → k < at → test (from + k) ≡ false)
    → find test (range_with_len from count) ≡ Some (from + at)
found test from zero at within is others = absurd (omega (arith, within))
found test from (suc count) zero within is others = ap (λ b. if b then Some from else find test (range_with_len (from + 1) count)) (ap test (omega arith) ∙ is) ∙ ap Some (omega arith)
found test from (suc count) (suc at) within is others =
    ap (λ b. if b then Some from else find test (range_with_len (from + 1) count)) (ap test (omega arith) ∙ others 0 (omega arith))
    ∙ found test (from + 1) count at (omega (arith, within)) (ap test (omega arith) ∙ is) (λ k less. ap test (omega arith) ∙ others (suc k) (omega (arith, less)))
    ∙ ap Some (omega arith)

missing : (test : ℕ → Bool) (from count : ℕ) → ((k : ℕ) → k < count → test (from + k) ≡ false) → find test (range_with_len from count) ≡ None
missing test from zero others = refl
missing test from (suc count) others =
    ap (λ b. if b then Some from else find test (range_with_len (from + 1) count)) (ap test (omega arith) ∙ others 0 (omega arith))
    ∙ missing test (from + 1) count (λ k less. ap test (omega arith) ∙ others (suc k) (omega (arith, less)))

-- ---- the place that an offset leads to

module _ (kind : Kind) (file : List ℕ) (offset : ℕ) where
  test : ℕ → Bool
  test place = size_in kind (take place file) == offset

  passes : (place : ℕ) → IsPlaceOfOffset kind file offset place → test place ≡ true
  unfolding test
  passes place is = (Decides-eqb (size_in kind (take place file)) offset).1 (sym (size_piece kind (take place file)) ∙ is.goes)

  is_place : (place : ℕ) → place ≤ length file → test place ≡ true → IsPlaceOfOffset kind file offset place
  unfolding test
  is_place place within is = record { within = within; goes = size_piece kind (take place file) ∙ (Decides-eqb (size_in kind (take place file)) offset).0 is }

  fails : (place : ℕ) → place ≤ length file → (IsPlaceOfOffset kind file offset place → ⊥) → test place ≡ false
  fails place within none = elim (test place) as (λ b. test place ≡ b → b ≡ false) [ true ↦ λ is. absurd (none (is_place place within is)) | false ↦ λ _. refl ] refl

  -- it is the one place
  pub leads : (place : ℕ) → IsPlaceOfOffset kind file offset place → place_in kind file offset ≡ Some place
  unfolding place_in test
  leads place is =
      found test 0 (length file + 1) place (omega (arith, is.within)) (ap test (zero-add place) ∙ passes place is)
      (λ k less. ap test (zero-add k) ∙ fails k (omega (arith, less, is.within)) (λ other. absurd (omega (arith, less, place_once kind file offset k place other is))))
      ∙ ap Some (zero-add place)

  pub leads_nowhere : ((place : ℕ) → IsPlaceOfOffset kind file offset place → ⊥) → place_in kind file offset ≡ None
  unfolding place_in test
  leads_nowhere none = missing test 0 (length file + 1) (λ k less. ap test (zero-add k) ∙ fails k (omega (arith, less)) (none k))

  passing : (place : ℕ) → (count from : ℕ) → find test (range_with_len from count) ≡ Some place → (place < from + count) × (test place ≡ true)
  passing place zero from is = cc
  passing place (suc count) from is =
      elim (test from) as (λ b. test from ≡ b → (place < from + suc count) × (test place ≡ true)) [
        | true ↦ λ yes. let same : from ≡ place = cc (ap (λ b. if b then Some from else find test (range_with_len (from + 1) count)) (sym yes) ∙ is) in
            (omega (arith, same), ap test (sym same) ∙ yes)
        | false ↦ λ not. let rest = passing place count (from + 1) (ap (λ b. if b then Some from else find test (range_with_len (from + 1) count)) (sym not) ∙ is) in
            (omega (arith, rest.0), rest.1)
      ] refl

  pub led : (place : ℕ) → place_in kind file offset ≡ Some place → IsPlaceOfOffset kind file offset place
  unfolding place_in test
  led place is = let both = passing place (length file + 1) 0 is in is_place place (omega (arith, both.0)) both.1

-- the place of a file that is counted is the one that the offset leads to
pub found_place : (kind : Kind) (octets : List ℕ) (offset place : ℕ) → counted_place kind octets offset ≡ Some place → place_in kind octets offset ≡ Some place
found_place kind octets offset place is = by (is_counted kind (length octets) || (offset == 0)) is
  where
    by : (b : Bool) → (if b then place_in kind octets offset else None) ≡ Some place → place_in kind octets offset ≡ Some place
    by true is = is
    by false is = absurd (cc)

-- the number of a size that is not refused is not refused
pub told_size : (kind : Kind) (octets : List ℕ) → refused_size kind octets ≡ None → refused_number (size_in kind octets) ≡ None
told_size kind octets none = by (is_counted kind (length octets)) none
  where
    by : (b : Bool) → (if b then refused_number (size_in kind octets) else Some Unavailable) ≡ None → refused_number (size_in kind octets) ≡ None
    by true none = none
    by false none = absurd (cc)

pub offsets_lead : OffsetsLead
offsets_lead kind octets offset place = (led kind octets offset place, leads kind octets offset place)

-- octets that go each as itself
pub in_image : (octets : List ℕ) (offset : ℕ) → place_in Image octets offset ≡ (if nat_le offset (length octets) then Some offset else None)
in_image octets offset =
    elim (nat_le offset (length octets)) as (λ b. nat_le offset (length octets) ≡ b → place_in Image octets offset ≡ (if b then Some offset else None)) [
      | true ↦ λ yes. let within = leb-true offset (length octets) yes in
          leads Image octets offset offset (record { within = within; goes = size_piece Image (take offset octets) ∙ length-take-le offset octets within })
      | false ↦ λ no. let past = leb-false offset (length octets) no in
          leads_nowhere Image octets offset (λ place other.
          absurd (omega (arith, past, other.within, other.goes, size_piece Image (take place octets), length-take-le place octets other.within)))
    ] refl

-- no octets
pub in_none : (kind : Kind) (offset : ℕ) → place_in kind [] offset ≡ (if nat_le offset 0 then Some offset else None)
in_none Image offset = in_image [] offset
in_none Ascii zero = leads Ascii [] 0 0 (record { within = omega arith; goes = refl })
in_none Ascii (suc offset) =
    leads_nowhere Ascii [] (suc offset) (λ place other.
    absurd (omega (arith, other.goes, ap (λ octets. length (wire_row Ascii octets)) (take_none place))))
    ∙ ap (λ b. if b then Some (suc offset) else None) (sym (no_le offset))
  where
    take_none : (place : ℕ) → take {A = ℕ} place [] ≡ []
    take_none zero = refl
    take_none (suc place) = refl

    no_le : (offset : ℕ) → nat_le (suc offset) 0 ≡ false
    no_le offset = elim (nat_le (suc offset) 0) as (λ b. nat_le (suc offset) 0 ≡ b → b ≡ false) [ true ↦ λ yes. absurd (omega (arith, leb-true (suc offset) 0 yes)) | false ↦ λ _. refl ] refl

-- ---- piece by piece

-- the first octets of a file go as some of those that an offset counts, and what is left counts behind them
abbrev pub IsLeft : Kind → List ℕ → ℕ → ℕ → ℕ → Type 0
IsLeft kind file offset at left = length (wire_row kind (take at file)) + left ≡ offset

behind : (kind : Kind) (file : List ℕ) (at k : ℕ) → length (wire_row kind (take (at + k) file)) ≡ length (wire_row kind (take at file)) + length (wire_row kind (take k (drop at file)))
behind kind file at k = ap (λ l. length (wire_row kind l)) (take-add at k file) ∙ row_append kind (take at file) (take k (drop at file))

-- a place behind is one of the file
place_behind : (kind : Kind) (file : List ℕ) (offset at left k : ℕ) → at ≤ length file → IsLeft kind file offset at left → IsPlaceOfOffset kind (drop at file) left k
    → IsPlaceOfOffset kind file offset (at + k)
place_behind kind file offset at left k within so_far is = record {
  within = omega (arith, within, is.within, length-drop at file);
  goes = behind kind file at k ∙ omega (arith, is.goes, so_far);
}

-- and a place of the file is one behind
place_ahead : (kind : Kind) (file : List ℕ) (offset at left place : ℕ) → at ≤ length file → IsLeft kind file offset at left → IsPlaceOfOffset kind file offset place
    → (k : ℕ) × IsPlaceOfOffset kind (drop at file) left k
place_ahead kind file offset at left place within so_far is =
    elim (le_or_behind place at) [
      | inl before ↦
          let less = goes_up kind file place at before in
          (0, record { within = omega arith; goes = omega (arith, less, so_far, is.goes) })
      | inr (k, same) ↦ (
        k,
        record {
          within = omega (arith, is.within, length-drop at file, same);
          goes = omega (arith, so_far, is.goes, behind kind file at k, ap (λ p. length (wire_row kind (take p file))) same);
        },
      )
    ]
  where
    le_or_behind : (p a : ℕ) → (p ≤ a) ⊎ ((k : ℕ) × (p ≡ a + k))
    le_or_behind zero a = inl (omega arith)
    le_or_behind (suc p) zero = inr (suc p, omega arith)
    le_or_behind (suc p) (suc a) = elim (le_or_behind p a) [ inl h ↦ inl (omega (arith, h)) | inr f ↦ inr (f.0, omega (arith, f.1)) ]

module _ (kind : Kind) (file piece : List ℕ) (offset at left : ℕ) (within : at ≤ length file) (so_far : IsLeft kind file offset at left)
    (is : piece ≡ take (length piece) (drop at file)) where
  whole : piece ++ drop (length piece) (drop at file) ≡ drop at file
  whole = ap (λ p. p ++ drop (length piece) (drop at file)) is ∙ take-append-drop (length piece) (drop at file)

  -- the piece has the place
  pub in_piece : (place : ℕ) → Skips kind piece left (Within place) → place_in kind file offset ≡ Some (at + place)
  in_piece place skips =
      let P : List ℕ → Type 0 = λ rest. IsPlaceOfOffset kind rest left place in
      leads kind file offset (at + place) (place_behind kind file offset at left place within so_far (subst P whole (within_stays kind piece (drop (length piece) (drop at file)) left place skips)))

  -- the piece has an octet that is cut
  pub in_octet : Skips kind piece left Inside → place_in kind file offset ≡ None
  in_octet skips =
      let P : List ℕ → Type 0 = λ rest. Skips kind rest left Inside in
      let inside = subst P whole (inside_stays kind piece (drop (length piece) (drop at file)) left skips) in
      leads_nowhere kind file offset (λ place other. let ahead = place_ahead kind file offset at left place within so_far other in inside.1 ahead.0 ahead.1)

  -- the piece goes whole
  pub past_piece : (more : ℕ) → Skips kind piece left (Left more) → IsLeft kind file offset (at + length piece) more
  past_piece more skips = omega (arith, so_far, skips.1, behind kind file at (length piece), ap (λ l. length (wire_row kind l)) is)

-- all pieces have gone
pub at_end : (kind : Kind) (file : List ℕ) (offset at left : ℕ) → at ≡ length file → IsLeft kind file offset at left → left ≡ 0
    → place_in kind file offset ≡ Some at
at_end kind file offset at left end so_far none =
    leads kind file offset at (record { within = omega (arith, end); goes = omega (arith, so_far, none) })

pub past_end : (kind : Kind) (file : List ℕ) (offset at left : ℕ) → at ≡ length file → IsLeft kind file offset at left → left ≢ 0
    → place_in kind file offset ≡ None
past_end kind file offset at left end so_far some =
    leads_nowhere kind file offset (λ place other. some (omega (arith, other.goes, so_far, goes_up kind file place at (omega (arith, other.within, end)))))
