-- A text with markers of very many octets: a front of it is read well, and settles more octets than any limit lets be.
use Rattle.std.proofs.Common.{◌≡◌, ℕ, zero, suc, ◌+◌, ◌-◌, ◌*◌, ◌/◌, ◌<◌, ◌≤◌, ◌^◌, List, [], ◌∷◌, ◌++◌, length, take, drop, Bool, true, false, ◌&&◌, refl, sym, ap, subst, ◌∙◌, arith, append_assoc, length-append, length-drop}
use Rattle.std.specs.Prelude.{if◌then◌else◌, ◌==◌, nat_lt}
use Rattle.std.proofs.lemmas.List.{drop-append-le, length-take-le, take-append-drop, take-append-le}
use Rattle.ftp_mode.specs.Block.{block_text, blocks_text, block_count, data_text, ends_of, has, marked_text, marker_text, marks_text}
use Rattle.ftp_mode.specs.Marker.{places, to_place}
use Rattle.ftp_mode.specs.Reading.{Place, plain, outside, escaped, at_head, at_high, at_low, inside, marking, ended as passed, Reading, going, failed, place_out, read_out}
use Rattle.ftp_mode.specs.Said.{Said, says, marker}
use Rattle.ftp_mode.specs.declared.descriptor.TheConstants.{END_OF_FILE, END_OF_RECORD, RESTART_MARKER}
use Rattle.ftp_repr.specs.Receiving.{Taking, ascii_gives, receiving, take_out}
use Rattle.ftp_repr.specs.Signs.{Sign, octet, end_record, end_file}
use Rattle.ftp_settings.specs.Marker.{is_marker_octet}
use Rattle.ftp_settings.specs.declared.representation.Kind.{Kind}
use Rattle.ftp_settings.specs.declared.representation.Kind.TheVariants as Kinds
use Rattle.ftp_settings.specs.declared.representation.Structure.{Structure}
use Rattle.ftp_settings.specs.declared.representation.Structure.TheVariants as Structures
use Rattle.ftp_wire.specs.Decoder.{Decoder, decoded, decoded_octet, decoder_of, ended, image_blocks, no_octets, octet_says, read_on, with_all, with_sign}
use Rattle.ftp_wire.proofs.WireLemmas.{marked_wire_gives_file}
use Rattle.laws_dialogues.proofs.Wires.{ReadsWell, decoded-append, marked_reads_well, reads_both}

-- ---- what octets settle at most

-- of two rows either is short
short_if : {X : Type 0} (b : Bool) (one other : List X) (n : ℕ) → length one ≤ n → length other ≤ n → length (if b then one else other) ≤ n
short_if true one other n a c = a
short_if false one other n a c = c

-- a sign settles two octets at most
sign_gives : (kind : Kind) (structure : Structure) (t : Taking) (sign : Sign) → length ((receiving (record { kind = kind; structure = structure })).out t sign) ≤ 2
sign_gives kind structure t sign = short_if t.ended [] (take_out (record { kind = kind; structure = structure }) t sign) 2 (omega arith) (by_sign kind structure t.held sign)
  where
    ascii : (held : Bool) (c : ℕ) → length (ascii_gives held c) ≤ 2
    ascii false c = short_if (c == 13) _ _ 2 (omega arith) (omega arith)
    ascii true c = short_if (c == 10) _ _ 2 (omega arith) (short_if (c == 0) _ _ 2 (omega arith) (short_if (c == 13) _ _ 2 (omega arith) (omega arith)))

    by_sign : (kind : Kind) (structure : Structure) (held : Bool) (sign : Sign) → length (take_out (record { kind = kind; structure = structure }) (record { held = held; ended = t.ended }) sign) ≤ 2
    by_sign Kinds.Image structure held (octet c) = omega arith
    by_sign Kinds.Ascii structure held (octet c) = ascii held c
    by_sign kind Structures.File held end_record = omega arith
    by_sign kind Structures.Record true end_record = omega arith
    by_sign kind Structures.Record false end_record = omega arith
    by_sign kind structure true end_file = omega arith
    by_sign kind structure false end_file = omega arith

-- what is said settles two for each of it at most
said_settles : (d : Decoder) (said : List Said) → length (with_all d said).content ≤ length d.content + 2 * length said
said_settles d [] = omega arith
said_settles d (says sign ∷ more) =
    omega (arith, said_settles (with_sign d sign) more, length-append d.content ((receiving d.form).out d.taking sign), sign_gives d.form.kind d.form.structure d.taking sign)
said_settles d (marker text ∷ more) = omega (arith, said_settles d more)

-- a block has two ends at most
ends_few : (d : ℕ) → length (ends_of d) ≤ 2
ends_few d = by_ends (has d END_OF_RECORD) (has d END_OF_FILE)
  where
    by_ends : (a b : Bool) → length {A = Said} ((if a then says end_record ∷ [] else []) ++ (if b then says end_file ∷ [] else [])) ≤ 2
    by_ends true true = omega arith
    by_ends true false = omega arith
    by_ends false true = omega arith
    by_ends false false = omega arith

-- an octet says three things at most
place_few : (place : Place) (c : ℕ) → length (place_out place c) ≤ 3
place_few plain c = omega arith
place_few outside c = short_if (c == 255) _ _ 3 (omega arith) (omega arith)
place_few escaped c =
    short_if (c == 255) _ _ 3 (omega arith) (short_if (c == 1) _ _ 3 (omega arith) (short_if (c == 2) _ _ 3 (omega arith) (short_if (c == 3) _ _ 3 (omega arith) (omega arith))))
place_few at_head c = omega arith
place_few (at_high d) c = omega arith
place_few (at_low d high) c = short_if (has d RESTART_MARKER) _ _ 3 (omega arith) (short_if (block_count high c == 0) _ _ 3 (omega (arith, ends_few d)) (omega arith))
place_few (inside d left) c = let few = short_if (left == 1) (ends_of d) [] 2 (ends_few d) (omega arith) in omega (arith, few)
place_few (marking d left text) c =
    short_if (is_marker_octet c && nat_lt (length text) 255) _ _ 3 (short_if (left == 1) _ _ 3 (let few = ends_few d in omega (arith, few)) (omega arith)) (omega arith)
place_few passed c = omega arith

-- so it settles six octets at most
octet_settles : (d : Decoder) (c : ℕ) → length (decoded_octet d c).content ≤ length d.content + 6
octet_settles d c = omega (arith, said_settles (read_on d c) (octet_says d c), read_few d.reading)
  where
    read_few : (reading : Reading) → length (read_out reading c) ≤ 3
    read_few (going n place) = place_few place c
    read_few (failed fault) = omega arith

-- and octets six for each of them
octets_settle : (d : Decoder) (octets : List ℕ) → length (decoded d octets).content ≤ length d.content + 6 * length octets
octets_settle d [] = omega arith
octets_settle d (c ∷ octets) = omega (arith, octets_settle (decoded_octet d c) octets, octet_settles d c)

-- ---- the front with so many markers

-- octets up to each place, and the marker there
front_text : ℕ → ℕ → List ℕ → List ℕ
front_text zero start b = []
front_text (suc k) start b =
    data_text 0 (take (to_place start) b) ++ (marker_text (start + to_place start) ++ front_text k (start + to_place start) (drop (to_place start) b))

-- three parts, one behind the other
three_parts : (a c d e : List ℕ) → a ++ (c ++ (d ++ e)) ≡ (a ++ (c ++ d)) ++ e
three_parts a c d e = ap (λ l. a ++ l) (sym (append_assoc c d e)) ∙ sym (append_assoc a (c ++ d) e)

-- it is a front of the text with more markers
is_front : (k all start : ℕ) (b : List ℕ) → k ≤ all → (rest : List ℕ) × (marks_text all start b ≡ front_text k start b ++ rest)
unfolding front_text
is_front zero all start b few = (marks_text all start b, refl)
is_front (suc k) zero start b few = absurd (omega (arith, few))
is_front (suc k) (suc all) start b few =
    let p = to_place start in
    let more = is_front k all (start + p) (drop p b) (omega (arith, few)) in (
      more.0,
      ap (λ l. data_text 0 (take p b) ++ (marker_text (start + p) ++ l)) more.1
          ∙ three_parts (data_text 0 (take p b)) (marker_text (start + p)) (front_text k (start + p) (drop p b)) more.0,
    )

-- of a text with as many markers, little is behind it
record Rest (k start : ℕ) (b : List ℕ) : Type 0 where
  rest : List ℕ
  is : marks_text k start b ≡ front_text k start b ++ data_text 64 rest
  few : length rest ≤ 65536

place_before : (k start n : ℕ) → suc k ≡ places start n → to_place start < n
place_before k start n e = omega (arith, e)

places_after : (k start n : ℕ) → suc k ≡ places start n → k ≡ places (start + to_place start) (n - to_place start)
places_after k start n e = omega (arith, e)

no_place : (start n : ℕ) → 0 ≡ places start n → n ≤ 65536
no_place start n e = omega (arith, e)

is_whole_front : (k start : ℕ) (b : List ℕ) → k ≡ places start (length b) → Rest k start b
unfolding front_text
is_whole_front zero start b count = record { rest = b; is = refl; few = no_place start (length b) count }
is_whole_front (suc k) start b count =
    let p = to_place start in
    let more = is_whole_front k (start + p) (drop p b) (places_after k start (length b) count ∙ ap (places (start + p)) (sym (length-drop p b))) in
    record {
      rest = more.rest;
      is = ap (λ l. data_text 0 (take p b) ++ (marker_text (start + p) ++ l)) more.is
          ∙ three_parts (data_text 0 (take p b)) (marker_text (start + p)) (front_text k (start + p) (drop p b)) (data_text 64 more.rest);
      few = more.few;
    }

-- octets behind change nothing of it
same_front : (k start : ℕ) (b more : List ℕ) → k ≡ places start (length b) → front_text k start (b ++ more) ≡ front_text k start b
unfolding front_text
same_front zero start b more count = refl
same_front (suc k) start b more count =
    let p = to_place start in
    let within : p ≤ length b = omega (arith, place_before k start (length b) count) in
    ap (λ l. data_text 0 l ++ (marker_text (start + p) ++ front_text k (start + p) (drop p (b ++ more)))) (take-append-le p b more within)
    ∙ ap (λ l. data_text 0 (take p b) ++ (marker_text (start + p) ++ front_text k (start + p) l)) (drop-append-le p b more within)
    ∙ ap (λ l. data_text 0 (take p b) ++ (marker_text (start + p) ++ l))
    (same_front k (start + p) (drop p b) more (places_after k start (length b) count ∙ ap (places (start + p)) (sym (length-drop p b))))

-- ---- octets in blocks are few more

blocks_few : (k d : ℕ) (xs : List ℕ) → length (blocks_text k d xs) ≤ length xs + 3 * k + 3
blocks_few zero d xs = omega arith
blocks_few (suc k) d xs =
    omega (
      arith,
      length-append (block_text 0 (take 8192 xs)) (blocks_text k d (drop 8192 xs)),
      blocks_few k d (drop 8192 xs),
      ap length (take-append-drop 8192 xs),
      length-append (take 8192 xs) (drop 8192 xs),
    )

data_few : (d : ℕ) (xs : List ℕ) → length xs ≤ 65536 → length (data_text d xs) ≤ 70000
data_few d xs few = omega (arith, blocks_few ((length xs - 1) / 8192) d xs, few)

-- ---- the front of a long text

-- a front of a text that is read well, and settles more than any limit lets be
pub record LongFront (text : List ℕ) : Type 0 where
  pub front : List ℕ
  pub rest : List ℕ
  pub is : text ≡ front ++ rest
  pub reads : ReadsWell (no_octets image_blocks) front
  pub long : 10 ^ 18 ≤ length (decoder_of image_blocks front).content

-- of octets that are too many for markers of 64 bits there is one
pub long_front : (start : ℕ) (b : List ℕ) → start < 10 ^ 18 → 2 ^ 64 ≤ start + length b → LongFront (marked_text start b)
long_front start b low many =
    by_parts (take (2 * 10 ^ 18) b) (drop (2 * 10 ^ 18) b) (take-append-drop (2 * 10 ^ 18) b) (length-take-le (2 * 10 ^ 18) b (omega (arith, low, many)))
  where
    by_parts : (one more : List ℕ) → one ++ more ≡ b → length one ≡ 2 * 10 ^ 18 → LongFront (marked_text start b)
    by_parts one more whole long =
        let k = places start (length one) in
        let all = places start (length b) in
        let len : length one ≤ length b = omega (arith, length-append one more, ap length whole) in
        let above = is_front k all start b (omega (arith, len)) in
        let text : marked_text start b ≡ front_text k start one ++ above.0 =
        above.1 ∙ ap (λ l. front_text k start l ++ above.0) (sym whole) ∙ ap (λ l. l ++ above.0) (same_front k start one more refl) in
        let fits : start + length one < 2 ^ 64 = omega (arith, low, long) in
        let tail = is_whole_front k start one refl in
        let d = decoder_of image_blocks (front_text k start one) in
        let reads : ReadsWell (no_octets image_blocks) (front_text k start one ++ data_text 64 tail.rest) =
        subst (ReadsWell (no_octets image_blocks)) tail.is (marked_reads_well start one fits) in
        let content : length (ended (decoder_of image_blocks (marked_text start one))).content ≡ length one = ap length (marked_wire_gives_file start one fits).content in
        let parts : decoder_of image_blocks (marked_text start one) ≡ decoded d (data_text 64 tail.rest) =
        ap (decoder_of image_blocks) tail.is ∙ decoded-append (no_octets image_blocks) (front_text k start one) (data_text 64 tail.rest) in
        let behind = decoded d (data_text 64 tail.rest) in
        let content_is : length (ended behind).content ≡ length one = ap (λ d. length (ended d).content) (sym parts) ∙ content in
        record {
          front = front_text k start one;
          rest = above.0;
          is = text;
          reads = (reads_both (no_octets image_blocks) (front_text k start one) (data_text 64 tail.rest) reads).0;
          long = omega (
            arith,
            content_is,
            long,
            said_settles behind (says end_file ∷ []),
            octets_settle d (data_text 64 tail.rest),
            data_few 64 tail.rest tail.few,
          );
        }
