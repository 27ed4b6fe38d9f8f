-- Moves of the reader, one behind the other.
use Rattle.std.proofs.Common.{◌≡◌, ℕ, ◌+◌, ◌-◌, ◌<◌, ◌≤◌, List, [], ◌∷◌, ◌++◌, length, Bool, true, false, ◌==◌, ltb, lt-ltb, le-ltb, if◌then◌else◌, refl, ap, sym, ◌∙◌, arith, append_assoc, append-nil, length-append}
use Rattle.std.specs.List.{AllByRecursion}
use Rattle.std.proofs.lemmas.Bool.{ne_eqb}
use Rattle.ftp_pieces.specs.Machine.{after, gives}
use Rattle.ftp_pieces.proofs.MachineLemmas.{after-append, gives-append}
use Rattle.ftp_mode.specs.declared.fault.FrameFault.TheVariants.{BadMarker}
use Rattle.ftp_mode.specs.Said.{Said, marker, octets_said}
use Rattle.ftp_settings.specs.Marker.{is_marker_octet, IsMarker}
use Rattle.ftp_mode.specs.Block.{Block, block_octets, block_said, IsBlock, has, block_count, ends_of}
use Rattle.ftp_mode.specs.Fault.{is_no_length}
use Rattle.ftp_mode.specs.Count.{count_on, next}
use Rattle.ftp_mode.specs.Reading.{Reading, going, failed, Place, at_head, at_low, inside, marking, after_block, is_complete_at, place_step, place_out, reader}
use Rattle.ftp_mode.specs.Deframing.{MovesReading}
use Rattle.ftp_mode.proofs.ReaderRuns.{full_after, full_gives, failed_after, failed_gives}

pub moves_append : (a b c : Reading) (xs ys : List ℕ) (s t : List Said) → MovesReading a b xs s → MovesReading b c ys t → MovesReading a c (xs ++ ys) (s ++ t)
moves_append a b c xs ys s t first second = record {
  state = second.state ∙ ap (λ r. after reader r ys) first.state ∙ sym (after-append reader a xs ys);
  says = ap (λ l. s ++ l) (second.says ∙ ap (λ r. gives reader r ys) first.state) ∙ ap (λ l. l ++ gives reader (after reader a xs) ys) first.says
      ∙ sym (gives-append reader a xs ys);
}

-- octets counted one by one
abbrev pub counted : ℕ → List ℕ → ℕ
counted n [] = n
counted n (x ∷ xs) = counted (next n) xs

-- the octets of a marker
pub mark_moves : (n d left : ℕ) (text : List ℕ) (c : ℕ) (xs : List ℕ) → AllByRecursion (λ x. is_marker_octet x ≡ true) (c ∷ xs)
    → length (c ∷ xs) ≡ left → length text + left ≤ 255
    → MovesReading (going n (marking d left text)) (going (count_on n (length (c ∷ xs))) (after_block d)) (c ∷ xs) (marker (text ++ c ∷ xs) ∷ ends_of d)
mark_moves n d left text c [] each full short =
    let good : is_marker_octet c ≡ true = each.0 in
    let fits : ltb (length text) 255 ≡ true = lt-ltb (length text) 255 (omega arith) in
    let last : (left == 1) ≡ true = rw (sym full) refl in
    record { state = rw (good, fits, last) refl; says = rw (good, fits, last) (ap (λ l. marker (text ++ c ∷ []) ∷ l) (sym (append-nil (ends_of d)))) }
mark_moves n d left text c (x ∷ xs) each full short =
    let good : is_marker_octet c ≡ true = each.0 in
    let fits : ltb (length text) 255 ≡ true = lt-ltb (length text) 255 (omega arith) in
    let last : (left == 1) ≡ false = ne_eqb left 1 (λ q. omega arith) in
    let rest = mark_moves (next n) d (left - 1) (text ++ c ∷ []) x xs each.1 (omega arith) (omega (arith, length-append text (c ∷ []))) in
    record {
      state = rw (good, fits, last) (ap (λ k. going k (after_block d)) (omega arith) ∙ rest.state);
      says = rw (good, fits, last) (ap (λ l. marker l ∷ ends_of d) (sym (append_assoc text (c ∷ []) (x ∷ xs))) ∙ rest.says);
    }

abbrev pub third : ℕ → ℕ
third n = next (next (next n))

third_more : (n d h l : ℕ) (xs : List ℕ) → count_on (third n) (length xs) ≡ count_on n (length (d ∷ h ∷ l ∷ xs))
third_more n d h l xs = omega arith

-- a header
pub head_moves : (n d h l : ℕ) (now : Reading) (said : List Said) → has d 32 ≡ false → place_step (next (next n)) (at_low d h) l ≡ now → place_out (at_low d h) l ≡ said
    → MovesReading (going n at_head) now (d ∷ h ∷ l ∷ []) said
head_moves n d h l now said sound is gives = record {
  state = rw sound (sym is);
  says = rw sound (sym (append-nil (place_out (at_low d h) l) ∙ gives));
}

empty_moves : (n d h l : ℕ) → has d 32 ≡ false → has d 16 ≡ false → block_count h l ≡ 0
    → MovesReading (going n at_head) (going (third n) (after_block d)) (d ∷ h ∷ l ∷ []) (ends_of d)
empty_moves n d h l sound kind none =
    let zero_is : (block_count h l == 0) ≡ true = rw none refl in
    head_moves n d h l (going (third n) (after_block d)) (ends_of d) sound (rw (kind, zero_is) refl) (rw (kind, zero_is) refl)

pub into_data : (n d h l k : ℕ) → has d 32 ≡ false → has d 16 ≡ false → block_count h l ≡ k → 0 < k
    → MovesReading (going n at_head) (going (third n) (inside d k)) (d ∷ h ∷ l ∷ []) []
into_data n d h l k sound kind is some =
    let some_is : (k == 0) ≡ false = ne_eqb k 0 (λ q. omega arith) in
    head_moves n d h l (going (third n) (inside d k)) [] sound (rw (kind, is, some_is) refl) (rw (kind, is, some_is) refl)

pub fits_length : (k : ℕ) → 0 < k → k ≤ 255 → is_no_length k ≡ false
fits_length k some short =
    let a : (k == 0) ≡ false = ne_eqb k 0 (λ q. omega arith) in
    let b : ltb 255 k ≡ false = le-ltb 255 k short in
    rw (a, b) refl

pub into_marker : (n d h l k : ℕ) → has d 32 ≡ false → has d 16 ≡ true → block_count h l ≡ k → is_no_length k ≡ false
    → MovesReading (going n at_head) (going (third n) (marking d k [])) (d ∷ h ∷ l ∷ []) []
into_marker n d h l k sound kind is fits =
    head_moves n d h l (going (third n) (marking d k [])) [] sound (rw (kind, is, fits) refl) (rw kind refl)

-- a block of data
pub data_moves : (n d h l : ℕ) (xs : List ℕ) → has d 32 ≡ false → has d 16 ≡ false → block_count h l ≡ length xs
    → MovesReading (going n at_head) (going (count_on n (length (d ∷ h ∷ l ∷ xs))) (after_block d)) (d ∷ h ∷ l ∷ xs) (octets_said xs ++ ends_of d)
data_moves n d h l [] sound kind is =
    let m = empty_moves n d h l sound kind is in
    record { state = ap (λ k. going k (after_block d)) (omega arith) ∙ m.state; says = m.says }
data_moves n d h l (x ∷ xs) sound kind is =
    let m = moves_append (going n at_head) (going (third n) (inside d (length (x ∷ xs)))) (going (count_on (third n) (length (x ∷ xs))) (after_block d)) (d ∷ h ∷ l ∷ []) (x ∷ xs) [] (octets_said (x ∷ xs) ++ ends_of d)
    (into_data n d h l (length (x ∷ xs)) sound kind is (omega arith))
    (record { state = sym (full_after (third n) d (length (x ∷ xs)) x xs refl); says = sym (full_gives (third n) d (length (x ∷ xs)) x xs refl) }) in
    record { state = ap (λ k. going k (after_block d)) (sym (third_more n d h l (x ∷ xs))) ∙ m.state; says = m.says }

-- a block of a marker
pub marker_moves : (n d h l : ℕ) (xs : List ℕ) → has d 32 ≡ false → has d 16 ≡ true → block_count h l ≡ length xs → IsMarker xs
    → MovesReading (going n at_head) (going (count_on n (length (d ∷ h ∷ l ∷ xs))) (after_block d)) (d ∷ h ∷ l ∷ xs) (marker xs ∷ ends_of d)
marker_moves n d h l [] sound kind is good = absurd (omega (arith, good.some))
marker_moves n d h l (x ∷ xs) sound kind is good =
    let m = moves_append (going n at_head) (going (third n) (marking d (length (x ∷ xs)) [])) (going (count_on (third n) (length (x ∷ xs))) (after_block d)) (d ∷ h ∷ l ∷ []) (x ∷ xs) [] (marker (x ∷ xs) ∷ ends_of d)
    (into_marker n d h l (length (x ∷ xs)) sound kind is (fits_length (length (x ∷ xs)) (omega arith) good.short))
    (mark_moves (third n) d (length (x ∷ xs)) [] x xs good.each refl (omega (arith, good.short))) in
    record { state = ap (λ k. going k (after_block d)) (sym (third_more n d h l (x ∷ xs))) ∙ m.state; says = m.says }

block_by : (marked : Bool) (n d h l : ℕ) (xs : List ℕ) → has d 16 ≡ marked → has d 32 ≡ false → block_count h l ≡ length xs → (marked ≡ true → IsMarker xs)
    → MovesReading (going n at_head) (going (count_on n (length (d ∷ h ∷ l ∷ xs))) (after_block d)) (d ∷ h ∷ l ∷ xs) ((if marked then marker xs ∷ [] else octets_said xs) ++ ends_of d)
block_by true n d h l xs e sound is good = marker_moves n d h l xs sound e is (good refl)
block_by false n d h l xs e sound is good = data_moves n d h l xs sound e is

-- a block
pub block_moves : (n : ℕ) (b : Block) → IsBlock b
    → MovesReading (going n at_head) (going (count_on n (length (block_octets b))) (after_block b.descriptor)) (block_octets b) (block_said b)
block_moves n b is = block_by (has b.descriptor 16) n b.descriptor b.high b.low b.octets refl is.sound is.counted is.marked

-- a place where no connection ends well
pub record Opens (before : Reading) (w : List ℕ) (said : List Said) : Type 0 where
  pub count : ℕ
  pub at : Place
  pub early : is_complete_at at ≡ false
  pub moves : MovesReading before (going count at) w said

-- octets of a marker that do not end it
pub cut_mark : (n d left : ℕ) (text xs : List ℕ) → AllByRecursion (λ x. is_marker_octet x ≡ true) xs → length xs < left → length text + left ≤ 255
    → MovesReading (going n (marking d left text)) (going (counted n xs) (marking d (left - length xs) (text ++ xs))) xs []
cut_mark n d left text [] each cut short =
    let whole : left - 0 ≡ left = omega arith in
    record { state = ap (λ k. going n (marking d k (text ++ []))) whole ∙ ap (λ l. going n (marking d left l)) (append-nil text); says = refl }
cut_mark n d left text (x ∷ xs) each cut short =
    let good : is_marker_octet x ≡ true = each.0 in
    let fits : ltb (length text) 255 ≡ true = lt-ltb (length text) 255 (omega arith) in
    let last : (left == 1) ≡ false = ne_eqb left 1 (λ q. omega arith) in
    let rest = cut_mark (next n) d (left - 1) (text ++ x ∷ []) xs each.1 (omega arith) (omega (arith, length-append text (x ∷ []))) in
    let less : left - 1 - length xs ≡ left - length (x ∷ xs) = omega arith in
    record {
      state = rw (good, fits, last) (ap (λ k. going (counted (next n) xs) (marking d k (text ++ x ∷ xs))) (sym less)
          ∙ ap (λ l. going (counted (next n) xs) (marking d (left - 1 - length xs) l)) (sym (append_assoc text (x ∷ []) xs)) ∙ rest.state);
      says = rw (good, fits, last) rest.says;
    }

-- an octet that no marker has
pub bad_mark : (n d left : ℕ) (text xs : List ℕ) (bad : ℕ) (w : List ℕ) → AllByRecursion (λ x. is_marker_octet x ≡ true) xs → length xs < left → length text + left ≤ 255
    → is_marker_octet bad ≡ false → MovesReading (going n (marking d left text)) (failed (BadMarker (counted n xs))) (xs ++ bad ∷ w) []
bad_mark n d left text xs bad w each cut short wrong =
    moves_append (going n (marking d left text)) (going (counted n xs) (marking d (left - length xs) (text ++ xs))) (failed (BadMarker (counted n xs))) xs (bad ∷ w) [] []
    (cut_mark n d left text xs each cut short)
    (record { state = rw wrong (sym (failed_after (BadMarker (counted n xs)) w)); says = rw wrong (sym (failed_gives (BadMarker (counted n xs)) w)) })
