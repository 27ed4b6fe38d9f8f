-- The text with own markers is a text, and says the signs of the file.
use Rattle.std.proofs.Common.{◌≡◌, ℕ, zero, suc, ◌+◌, ◌-◌, ◌/◌, ◌%◌, ◌<◌, ◌≤◌, ◌^◌, List, [], ◌∷◌, ◌++◌, map, length, take, drop, true, leb, le-leb, refl, ap, sym, ◌∙◌, arith, append_assoc, length-drop}
use Rattle.std.specs.List.{AllByRecursion}
use Rattle.std.specs.Fmt.{decimal}
use Rattle.std.proofs.lemmas.Fmt.{decimal_by_steps, decimal_nonempty, length-decimal-le}
use Rattle.std.proofs.lemmas.List.{take-append-drop, map-append}
use Rattle.ftp_repr.specs.Signs.{Sign, octet, end_file}
use Rattle.ftp_settings.specs.declared.representation.Structure.{Structure}
use Rattle.ftp_settings.specs.declared.representation.Mode.TheVariants.{Block as Blocks}
use Rattle.ftp_mode.specs.Said.{Said, says, marker, octets_said, file_signs}
use Rattle.ftp_settings.specs.Marker.{is_marker_octet, IsMarker}
use Rattle.ftp_mode.specs.Marker.{to_place, places}
use Rattle.ftp_mode.specs.Block.{Block, IsBlock, block_count, marker_text, data_text, marks_text, marked_text}
use Rattle.ftp_mode.specs.Units.{whole, IsText}
use Rattle.ftp_mode.proofs.TextLemmas.{text_is, text_more, blocks_more, blocks_last}
use Rattle.ftp_mode.proofs.MarkLemmas.{plain_row}

-- a decimal number is a marker
digit_good : (n : ℕ) → n < 10 → is_marker_octet (48 + n) ≡ true
digit_good n small =
    let low : leb 33 (48 + n) ≡ true = le-leb 33 (48 + n) (omega arith) in
    let high : leb (48 + n) 126 ≡ true = le-leb (48 + n) 126 (omega arith) in
    rw (low, high) refl

each_more : (xs : List ℕ) (c : ℕ) → AllByRecursion (λ x. is_marker_octet x ≡ true) xs → is_marker_octet c ≡ true → AllByRecursion (λ x. is_marker_octet x ≡ true) (xs ++ c ∷ [])
each_more [] c each good = (good, tt)
each_more (x ∷ xs) c each good = (each.0, each_more xs c each.1 good)

pub decimal_marker : (n : ℕ) → n < 2 ^ 64 → IsMarker (decimal n)
decimal_marker n fits =
    let P : ℕ → List ℕ → Type 0 = λ k ds. AllByRecursion (λ x. is_marker_octet x ≡ true) ds in
    let short : length (decimal n) ≤ 20 = length-decimal-le 20 n (omega arith) (omega (arith, fits)) fits in
    record {
      some = decimal_nonempty n fits;
      short = omega (arith, short);
      each = decimal_by_steps P (λ k small. (digit_good k small, tt)) (λ k ds more each. each_more ds (48 + k % 10) each (digit_good (k % 10) (omega arith))) n fits;
    }

marker_block : ℕ → Block
marker_block n = record { descriptor = 16; high = length (decimal n) / 256; low = length (decimal n) % 256; octets = decimal n }

marker_more : (s : Structure) (n : ℕ) (w : List ℕ) (said : List Said) → n < 2 ^ 64 → IsText Blocks s w said → IsText Blocks s (marker_text n ++ w) (marker (decimal n) ∷ said)
unfolding marker_block
marker_more s n w said fits t =
    let is : IsBlock (marker_block n) = record { sound = refl; counted = let e : block_count (length (decimal n) / 256) (length (decimal n) % 256) ≡ length (decimal n) = omega arith in e; marked = λ e. decimal_marker n fits } in
    text_more Blocks s (whole (marker_block n)) w said (is, refl) t

pub file-octets : (xs : List ℕ) (rest : List Said) → file_signs (octets_said xs ++ rest) ≡ map octet xs ++ file_signs rest
file-octets [] rest = refl
file-octets (c ∷ xs) rest = ap (λ l. octet c ∷ l) (file-octets xs rest)

-- a text that says a row of signs, and perhaps markers
pub record SaysRow (s : Structure) (w : List ℕ) (ss : List Sign) : Type 0 where
  pub said : List Said
  pub is : IsText Blocks s w said
  pub signs : file_signs said ≡ ss

place_before : (k start n : ℕ) → suc k ≡ places start n → to_place start < n
place_before k start n e = omega (arith, e)

places_after : (k start n : ℕ) → suc k ≡ places start n → k ≡ places (start + to_place start) (n - to_place start)
places_after k start n e = omega (arith, e)

row_split : (n : ℕ) (b : List ℕ) → map octet (take n b) ++ plain_row (drop n b) ≡ plain_row b
row_split n b =
    sym (append_assoc (map octet (take n b)) (map octet (drop n b)) (end_file ∷ []))
    ∙ ap (λ l. l ++ end_file ∷ []) (sym (map-append octet (take n b) (drop n b)) ∙ ap (map octet) (take-append-drop n b))

marks_say : (s : Structure) (k start : ℕ) (b more : List ℕ) → k ≡ places start (length b) → start + length b < 2 ^ 64 → SaysRow s (marks_text k start b ++ more) (plain_row b)
marks_say s zero start b more count fits = record {
  said = octets_said b ++ says end_file ∷ [];
  is = blocks_last s ((length b - 1) / 8192) 64 b more refl refl refl;
  signs = file-octets b (says end_file ∷ []);
}
marks_say s (suc k) start b more count fits =
    let p = to_place start in
    let before = place_before k start (length b) count in
    let rest = marks_say s k (start + p) (drop p b) more (places_after k start (length b) count ∙ ap (places (start + p)) (sym (length-drop p b))) (omega (arith, fits, before, length-drop p b)) in
    let w = marks_text k (start + p) (drop p b) ++ more in
    let front = data_text 0 (take p b) in
    let text = blocks_more s ((length (take p b) - 1) / 8192) 0 (take p b) (marker_text (start + p) ++ w) (marker (decimal (start + p)) ∷ rest.said) refl refl refl
    (marker_more s (start + p) w rest.said (omega (arith, fits, before)) rest.is) in
    record {
      said = octets_said (take p b) ++ marker (decimal (start + p)) ∷ rest.said;
      is = text_is Blocks s (front ++ (marker_text (start + p) ++ w)) (marks_text (suc k) start b ++ more) (octets_said (take p b) ++ marker (decimal (start + p)) ∷ rest.said)
          (octets_said (take p b) ++ marker (decimal (start + p)) ∷ rest.said)
          (ap (λ l. front ++ l) (sym (append_assoc (marker_text (start + p)) (marks_text k (start + p) (drop p b)) more))
          ∙ sym (append_assoc front (marker_text (start + p) ++ marks_text k (start + p) (drop p b)) more)) refl text;
      signs = file-octets (take p b) (marker (decimal (start + p)) ∷ rest.said) ∙ ap (λ l. map octet (take p b) ++ l) rest.signs ∙ row_split p b;
    }

pub marked_says : (s : Structure) (start : ℕ) (b more : List ℕ) → start + length b < 2 ^ 64 → SaysRow s (marked_text start b ++ more) (plain_row b)
marked_says s start b more fits = marks_say s (places start (length b)) start b more refl fits
