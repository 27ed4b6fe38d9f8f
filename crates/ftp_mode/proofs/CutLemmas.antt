-- The reader over a wire that was cut or stands in no text.
use Rattle.std.proofs.Common.{◌≡◌, ℕ, ◌+◌, ◌-◌, ◌<◌, ◌≤◌, ◌^◌, inl, inr, List, [], ◌∷◌, ◌++◌, length, false, ◌==◌, ltb, refl, ap, sym, subst, ◌∙◌, arith, append-nil, length-append}
use Rattle.std.proofs.lemmas.Bool.{eqb-false, ltb-false, false≢true}
use Rattle.ftp_pieces.specs.Machine.{after, gives}
use Rattle.ftp_settings.specs.declared.representation.Structure.{Structure}
use Rattle.ftp_settings.specs.declared.representation.Structure.TheVariants.{File, Record}
use Rattle.ftp_repr.proofs.AsciiLemmas.{decided}
use Rattle.ftp_settings.specs.declared.representation.Mode.{Mode}
use Rattle.ftp_settings.specs.declared.representation.Mode.TheVariants.{Stream, Block as Blocks}
use Rattle.ftp_mode.specs.declared.fault.FrameFault.{FrameFault}
use Rattle.ftp_mode.specs.declared.fault.FrameFault.TheVariants.{BadEscape, Suspect, BadMarker}
use Rattle.ftp_mode.specs.Said.{Said, octets_said}
use Rattle.ftp_mode.specs.Stream.{is_code, code_said}
use Rattle.ftp_mode.specs.Block.{block_count}
use Rattle.ftp_mode.specs.Units.{units_octets, units_said}
use Rattle.ftp_mode.specs.Fault.{is_no_length, Begins, IsBadEscape, IsSuspect, IsBadLength, IsBadOctet, IsFault}
use Rattle.ftp_mode.specs.Front.{IsCutHeader, IsCutData, IsCutMarker, IsCutUnit}
use Rattle.ftp_mode.specs.Count.{count_on, next}
use Rattle.ftp_mode.specs.Reading.{Reading, going, failed, outside, escaped, at_head, at_high, at_low, inside, marking, first_place, start, reader}
use Rattle.ftp_mode.specs.Deframing.{MovesReading}
use Rattle.ftp_mode.proofs.ReaderRuns.{short_after, short_gives, failed_after, failed_gives}
use Rattle.ftp_mode.proofs.MoveLemmas.{moves_append, counted, third, head_moves, into_data, into_marker, cut_mark, bad_mark, Opens}
use Rattle.ftp_mode.proofs.UnitLemmas.{units_moves}

-- a count of 1 to 255
pub length_fits : (k : ℕ) → is_no_length k ≡ false → (0 < k) × (k ≤ 255)
length_fits k e =
    elim (decided (k == 0)) [
      | inl z ↦ absurd (false≢true (sym e ∙ rw z refl))
      | inr z ↦ (let l : ltb 255 k ≡ false = sym (rw z refl) ∙ e in
          (omega (arith, eqb-false k 0 z), ltb-false 255 k l))
    ]

counted_is : (n : ℕ) (xs : List ℕ) → n + length xs ≤ 2 ^ 64 - 1 → counted n xs ≡ n + length xs
counted_is n [] fits = omega arith
counted_is n (x ∷ xs) fits =
    let one : next n ≡ n + 1 = omega arith in
    counted_is (next n) xs (omega (arith, one)) ∙ omega (arith, one)

fails_for_good : (f : FrameFault) (w : List ℕ) → MovesReading (failed f) (failed f) w []
fails_for_good f w = record { state = sym (failed_after f w); says = sym (failed_gives f w) }

no_code : (c : ℕ) → is_code c ≡ false → code_said c ≡ []
no_code c h =
    elim (decided (c == 255)) [
      | inl e ↦ absurd (false≢true (sym h ∙ rw e refl))
      | inr e ↦ elim (decided (c == 1)) [
        | inl f ↦ absurd (false≢true (sym h ∙ rw (e, f) refl))
        | inr f ↦ elim (decided (c == 2)) [
          | inl g ↦ absurd (false≢true (sym h ∙ rw (e, f, g) refl))
          | inr g ↦ elim (decided (c == 3)) [
            | inl i ↦ absurd (false≢true (sym h ∙ rw (e, f, g, i) refl))
            | inr i ↦ rw (e, f, g, i) refl
          ]
        ]
      ]
    ]

bad_escape : (n : ℕ) (w : List ℕ) (fault : FrameFault) → n + length w < 2 ^ 64 → IsBadEscape n w fault → MovesReading (going n outside) (failed fault) w []
bad_escape n w fault fits b =
    let P : List ℕ → FrameFault → Type 0 = λ l f. MovesReading (going n outside) (failed f) l [] in
    let place : next n ≡ n + 1 = omega (arith, fits, ap length b.is) in
    let wrong = b.wrong in
    let here : MovesReading (going n outside) (failed (BadEscape (next n))) (255 ∷ b.code ∷ b.rest) [] =
    record { state = rw wrong (sym (failed_after (BadEscape (next n)) b.rest)); says = rw wrong (sym (ap (λ l. l ++ gives reader (failed (BadEscape (next n))) b.rest) (no_code b.code wrong) ∙ failed_gives (BadEscape (next n)) b.rest)) } in
    let R : FrameFault → Type 0 = λ f. P w f in
    let Q : List ℕ → Type 0 = λ l. P l (BadEscape (next n)) in
    subst R (ap BadEscape place ∙ sym b.named) (subst Q (sym b.is) here)

suspect : (n : ℕ) (w : List ℕ) (fault : FrameFault) → IsSuspect n w fault → MovesReading (going n at_head) (failed fault) w []
suspect n w fault b =
    let wrong = b.wrong in
    let here : MovesReading (going n at_head) (failed (Suspect n)) (b.descriptor ∷ b.rest) [] =
    record { state = rw wrong (sym (failed_after (Suspect n) b.rest)); says = rw wrong (sym (failed_gives (Suspect n) b.rest)) } in
    let R : FrameFault → Type 0 = λ f. MovesReading (going n at_head) (failed f) w [] in
    let Q : List ℕ → Type 0 = λ l. MovesReading (going n at_head) (failed (Suspect n)) l [] in
    subst R (sym b.named) (subst Q (sym b.is) here)

bad_length : (n : ℕ) (w : List ℕ) (fault : FrameFault) → n + length w < 2 ^ 64 → IsBadLength n w fault → MovesReading (going n at_head) (failed fault) w []
bad_length n w fault fits b =
    let place : next (next n) - 2 ≡ n = omega (arith, fits, ap length b.is) in
    let kind = b.marker in
    let wrong = b.wrong in
    let header = head_moves n b.descriptor b.high b.low (failed (BadMarker (next (next n) - 2))) [] b.sound (rw (kind, wrong) refl) (rw kind refl) in
    let here = moves_append (going n at_head) (failed (BadMarker (next (next n) - 2))) (failed (BadMarker (next (next n) - 2))) (b.descriptor ∷ b.high ∷ b.low ∷ []) b.rest [] []
    header (fails_for_good (BadMarker (next (next n) - 2)) b.rest) in
    let R : FrameFault → Type 0 = λ f. MovesReading (going n at_head) (failed f) w [] in
    let Q : List ℕ → Type 0 = λ l. MovesReading (going n at_head) (failed (BadMarker (next (next n) - 2))) l [] in
    subst R (ap BadMarker place ∙ sym b.named) (subst Q (sym b.is) here)

bad_octet : (n : ℕ) (w : List ℕ) (fault : FrameFault) → n + length w < 2 ^ 64 → IsBadOctet n w fault → MovesReading (going n at_head) (failed fault) w []
bad_octet n w fault fits b =
    let k = block_count b.high b.low in
    let size = length_fits k b.fits in
    let total : length w ≡ 3 + (length b.good + (1 + length b.rest)) = ap length b.is ∙ omega (arith, length-append b.good (b.bad ∷ b.rest)) in
    let three : third n ≡ n + 3 = omega (arith, fits, total) in
    let place : counted (third n) b.good ≡ n + 3 + length b.good = counted_is (third n) b.good (omega (arith, fits, total, three)) ∙ ap (λ i. i + length b.good) three in
    let here = moves_append (going n at_head) (going (third n) (marking b.descriptor k [])) (failed (BadMarker (counted (third n) b.good))) (b.descriptor ∷ b.high ∷ b.low ∷ []) (b.good ++ b.bad ∷ b.rest) [] []
    (into_marker n b.descriptor b.high b.low k b.sound b.marker refl b.fits)
    (bad_mark (third n) b.descriptor k [] b.good b.bad b.rest b.each b.within (omega (arith, size.1)) b.wrong) in
    let R : FrameFault → Type 0 = λ f. MovesReading (going n at_head) (failed f) w [] in
    let Q : List ℕ → Type 0 = λ l. MovesReading (going n at_head) (failed (BadMarker (counted (third n) b.good))) l [] in
    subst R (ap BadMarker place ∙ sym b.named) (subst Q (sym b.is) here)

begins_moves : (m : Mode) (s : Structure) (n : ℕ) (w : List ℕ) (fault : FrameFault) → n + length w < 2 ^ 64 → Begins m s n w fault
    → MovesReading (going n (first_place m s)) (failed fault) w []
begins_moves Stream File n w fault fits b = absurd b
begins_moves Stream Record n w fault fits b = bad_escape n w fault fits b
begins_moves Blocks s n w fault fits b = elim b [
  | inl e ↦ suspect n w fault e
  | inr e ↦ elim e [ inl f ↦ bad_length n w fault fits f | inr f ↦ bad_octet n w fault fits f ]
]

-- a wire with a fault fails there, and says what stands before it
pub fault_moves : (m : Mode) (s : Structure) (w : List ℕ) (fault : FrameFault) → length w < 2 ^ 64 → (f : IsFault m s w fault)
    → MovesReading (start m s) (failed fault) w (units_said f.units)
fault_moves m s w fault fits f =
    let k = length (units_octets f.units) in
    let total : length w ≡ k + length f.rest = ap length f.is ∙ length-append (units_octets f.units) f.rest in
    let here : count_on 0 k ≡ k = omega (arith, fits, total) in
    let P : ℕ → Type 0 = λ i. MovesReading (start m s) (going i (first_place m s)) (units_octets f.units) (units_said f.units) in
    let units = subst P here (units_moves m s 0 f.units (omega arith) f.each) in
    let all = moves_append (start m s) (going k (first_place m s)) (failed fault) (units_octets f.units) f.rest (units_said f.units) [] units
    (begins_moves m s k f.rest fault (omega (arith, fits, total)) f.begins) in
    record {
      state = all.state ∙ ap (after reader (start m s)) (sym f.is);
      says = sym (append-nil (units_said f.units)) ∙ all.says ∙ ap (gives reader (start m s)) (sym f.is);
    }

-- a cut unit
cut_header : (n : ℕ) (w : List ℕ) → IsCutHeader w → Opens (going n at_head) w []
cut_header n w h = elim h [
  | inl e ↦ (let P : List ℕ → Type 0 = λ l. Opens (going n at_head) l [] in let sound = e.1 in
      subst P (sym e.2) (record { count = next n; at = at_high e.0; early = refl; moves = record { state = rw sound refl; says = refl } }))
  | inr e ↦ (let P : List ℕ → Type 0 = λ l. Opens (going n at_head) l [] in let sound = e.2 in
      subst P (sym e.3) (record { count = next (next n); at = at_low e.0 e.1; early = refl; moves = record { state = rw sound refl; says = rw sound refl } }))
]

data_by : (n d k : ℕ) (xs : List ℕ) → length xs < k → Opens (going n (inside d k)) xs (octets_said xs)
data_by n d k [] short = record { count = n; at = inside d k; early = refl; moves = record { state = refl; says = refl } }
data_by n d k (x ∷ xs) short = record {
  count = count_on n (length (x ∷ xs));
  at = inside d (k - length (x ∷ xs));
  early = refl;
  moves = record { state = sym (short_after n d k x xs short); says = sym (short_gives n d k (x ∷ xs) short) };
}

pub opens_behind : (a b : Reading) (xs ys : List ℕ) (s t : List Said) → MovesReading a b xs s → Opens b ys t → Opens a (xs ++ ys) (s ++ t)
opens_behind a b xs ys s t first second = record {
  count = second.count;
  at = second.at;
  early = second.early;
  moves = moves_append a b (going second.count second.at) xs ys s t first second.moves;
}

cut_data : (n : ℕ) (w : List ℕ) (said : List Said) → IsCutData w said → Opens (going n at_head) w said
cut_data n w said b =
    let k = block_count b.high b.low in
    let here = opens_behind (going n at_head) (going (third n) (inside b.descriptor k)) (b.descriptor ∷ b.high ∷ b.low ∷ []) b.octets [] (octets_said b.octets)
    (into_data n b.descriptor b.high b.low k b.sound b.plain refl (omega (arith, b.short))) (data_by (third n) b.descriptor k b.octets b.short) in
    let R : List Said → Type 0 = λ l. Opens (going n at_head) w l in
    let Q : List ℕ → Type 0 = λ l. Opens (going n at_head) l (octets_said b.octets) in
    subst R (sym b.says) (subst Q (sym b.is) here)

cut_marker : (n : ℕ) (w : List ℕ) → IsCutMarker w → Opens (going n at_head) w []
cut_marker n w b =
    let k = block_count b.high b.low in
    let size = length_fits k b.fits in
    let here = opens_behind (going n at_head) (going (third n) (marking b.descriptor k [])) (b.descriptor ∷ b.high ∷ b.low ∷ []) b.octets [] []
    (into_marker n b.descriptor b.high b.low k b.sound b.marker refl b.fits)
    (record {
      count = counted (third n) b.octets;
      at = marking b.descriptor (k - length b.octets) ([] ++ b.octets);
      early = refl;
      moves = cut_mark (third n) b.descriptor k [] b.octets b.each b.short (omega (arith, size.1));
    }) in
    let Q : List ℕ → Type 0 = λ l. Opens (going n at_head) l [] in
    subst Q (sym b.is) here

with_said : (r : Reading) (w : List ℕ) (said : List Said) → said ≡ [] → Opens r w [] → Opens r w said
with_said r w said e o = let P : List Said → Type 0 = λ l. Opens r w l in subst P (sym e) o

pub cut_moves : (m : Mode) (s : Structure) (n : ℕ) (w : List ℕ) (said : List Said) → IsCutUnit m s w said → Opens (going n (first_place m s)) w said
cut_moves Stream File n w said c = absurd c
cut_moves Stream Record n w said c =
    let P : List ℕ → Type 0 = λ l. Opens (going n outside) l [] in
    with_said (going n outside) w said c.1
    (subst P (sym c.0) (record { count = next n; at = escaped; early = refl; moves = record { state = refl; says = refl } }))
cut_moves Blocks s n w said c = elim c [
  | inl e ↦ with_said (going n at_head) w said e.1 (cut_header n w e.0)
  | inr e ↦ elim e [ inl f ↦ cut_data n w said f | inr f ↦ with_said (going n at_head) w said f.1 (cut_marker n w f.0) ]
]
