-- The one text of a file is a text, and says the signs of the file.
use Rattle.std.proofs.Common.{◌≡◌, ℕ, zero, suc, ◌-◌, ◌/◌, ◌%◌, inl, inr, List, [], ◌∷◌, ◌++◌, map, length, take, drop, true, false, ◌==◌, refl, ap, sym, subst, ◌∙◌, arith, append_assoc, append-nil}
use Rattle.std.proofs.lemmas.Bool.{eqb-true, false≢true}
use Rattle.std.proofs.lemmas.List.{take-append-drop, map-append}
use Rattle.ftp_repr.specs.Signs.{Sign, octet, end_record, end_file}
use Rattle.ftp_settings.specs.declared.representation.Structure.{Structure}
use Rattle.ftp_settings.specs.declared.representation.Structure.TheVariants.{Record}
use Rattle.ftp_repr.proofs.AsciiLemmas.{decided}
use Rattle.ftp_repr.proofs.SignLemmas.{IsWhole}
use Rattle.ftp_settings.specs.declared.representation.Mode.{Mode}
use Rattle.ftp_settings.specs.declared.representation.Mode.TheVariants.{Stream, Block as Blocks}
use Rattle.ftp_mode.specs.Said.{Said, says, octets_said, file_signs}
use Rattle.ftp_mode.specs.Stream.{escaped_octet, plain_text, record_text}
use Rattle.ftp_mode.specs.Block.{Block, block_said, IsBlock, has, block_count, ends_of, block_text, blocks_text, data_text, rows_text}
use Rattle.ftp_mode.specs.Units.{WireUnit, one, escape, whole, unit_octets, unit_said, unit_ends, IsUnit, GoesOn, units_octets, units_said, IsText}

-- one more unit in front of a text
pub text_more : (m : Mode) (s : Structure) (u : WireUnit) (w : List ℕ) (said : List Said) → GoesOn m s u → IsText m s w said → IsText m s (unit_octets u ++ w) (unit_said u ++ said)
text_more m s u w said h t = record {
  units = u ∷ t.units;
  each = (h, t.each);
  last = t.last;
  fits = t.fits;
  ends = t.ends;
  rest = t.rest;
  is = ap (λ l. unit_octets u ++ l) t.is ∙ sym (append_assoc (unit_octets u) (units_octets t.units) (unit_octets t.last ++ t.rest));
  says = ap (λ l. unit_said u ++ l) t.says ∙ sym (append_assoc (unit_said u) (units_said t.units) (unit_said t.last));
}

text_last : (m : Mode) (s : Structure) (u : WireUnit) (rest : List ℕ) → IsUnit m s u → unit_ends u ≡ true → IsText m s (unit_octets u ++ rest) (unit_said u)
text_last m s u rest h e = record { units = []; each = tt; last = u; fits = h; ends = e; rest = rest; is = refl; says = refl }

-- the same text or the same signs, written otherwise
pub text_is : (m : Mode) (s : Structure) (v w : List ℕ) (a b : List Said) → v ≡ w → a ≡ b → IsText m s v a → IsText m s w b
text_is m s v w a b e f t =
    let P : List ℕ → Type 0 = λ l. IsText m s l b in
    let Q : List Said → Type 0 = λ l. IsText m s v l in subst P e (subst Q f t)

-- the signs of a row
abbrev pub row_said : List Sign → List Said
row_said ss = map (λ x. says x) ss

pub file-row_said : (ss : List Sign) → file_signs (row_said ss) ≡ ss
file-row_said [] = refl
file-row_said (x ∷ ss) = ap (λ l. x ∷ l) (file-row_said ss)

octet_text : (c : ℕ) (w : List ℕ) (said : List Said) → IsText Stream Record w said → IsText Stream Record (escaped_octet c ++ w) (says (octet c) ∷ said)
octet_text c w said t =
    elim (decided (c == 255)) [
      | inl e ↦ (let P : ℕ → Type 0 = λ k. IsText Stream Record (escaped_octet k ++ w) (says (octet k) ∷ said) in
          subst P (sym (eqb-true c 255 e)) (text_more Stream Record (escape 255) w said (refl, refl) t))
      | inr e ↦ rw e (text_more Stream Record (one c) w said (e, refl) t)
    ]

-- the text of records
pub record_is_text : (ss : List Sign) (more : List ℕ) → IsWhole ss → IsText Stream Record (record_text ss ++ more) (row_said ss)
record_is_text [] more h = absurd h
record_is_text (octet c ∷ ss) more h =
    text_is Stream Record (escaped_octet c ++ (record_text ss ++ more)) (record_text (octet c ∷ ss) ++ more) (row_said (octet c ∷ ss)) (row_said (octet c ∷ ss))
    (sym (append_assoc (escaped_octet c) (record_text ss) more)) refl (octet_text c (record_text ss ++ more) (row_said ss) (record_is_text ss more h))
record_is_text (end_record ∷ []) more h = absurd h
record_is_text (end_record ∷ octet c ∷ ss) more h =
    text_more Stream Record (escape 1) (record_text (octet c ∷ ss) ++ more) (row_said (octet c ∷ ss)) (refl, refl) (record_is_text (octet c ∷ ss) more h)
record_is_text (end_record ∷ end_record ∷ ss) more h =
    text_more Stream Record (escape 1) (record_text (end_record ∷ ss) ++ more) (row_said (end_record ∷ ss)) (refl, refl) (record_is_text (end_record ∷ ss) more h)
record_is_text (end_record ∷ end_file ∷ ss) more h =
    let P : List Sign → Type 0 = λ l. IsText Stream Record (255 ∷ 3 ∷ more) (row_said (end_record ∷ end_file ∷ l)) in
    subst P (sym h) (text_last Stream Record (escape 3) more refl refl)
record_is_text (end_file ∷ ss) more h =
    let P : List Sign → Type 0 = λ l. IsText Stream Record (255 ∷ 2 ∷ more) (row_said (end_file ∷ l)) in
    subst P (sym h) (text_last Stream Record (escape 2) more refl refl)

-- a row of octets and the end of file
abbrev pub IsPlainRow : List Sign → Type 0
IsPlainRow [] = ⊥
IsPlainRow (octet c ∷ ss) = IsPlainRow ss
IsPlainRow (end_record ∷ ss) = ⊥
IsPlainRow (end_file ∷ ss) = ss ≡ []

pub plain_says : (ss : List Sign) → IsPlainRow ss → row_said ss ≡ octets_said (plain_text ss) ++ says end_file ∷ []
plain_says [] h = absurd h
plain_says (octet c ∷ ss) h = ap (λ l. says (octet c) ∷ l) (plain_says ss h)
plain_says (end_record ∷ ss) h = absurd h
plain_says (end_file ∷ ss) h = ap (λ l. says end_file ∷ row_said l) h

-- a block as it is written
written_block : ℕ → List ℕ → Block
written_block d xs = record { descriptor = d; high = length xs / 256; low = length xs % 256; octets = xs }

count_is : (n : ℕ) → block_count (n / 256) (n % 256) ≡ n
count_is n = omega arith

written_is : (d : ℕ) (xs : List ℕ) → has d 32 ≡ false → has d 16 ≡ false → IsBlock (written_block d xs)
unfolding written_block
written_is d xs sound plain = record { sound = sound; counted = count_is (length xs); marked = λ e. absurd (false≢true (sym plain ∙ e)) }

pub block_more : (s : Structure) (d : ℕ) (xs w : List ℕ) (said : List Said) → has d 32 ≡ false → has d 16 ≡ false → has d 64 ≡ false
    → IsText Blocks s w said → IsText Blocks s (block_text d xs ++ w) ((octets_said xs ++ ends_of d) ++ said)
unfolding written_block
block_more s d xs w said sound plain on t =
    let kind : block_said (written_block d xs) ≡ octets_said xs ++ ends_of d = rw plain refl in
    text_is Blocks s (block_text d xs ++ w) (block_text d xs ++ w) (block_said (written_block d xs) ++ said) ((octets_said xs ++ ends_of d) ++ said) refl (ap (λ l. l ++ said) kind)
    (text_more Blocks s (whole (written_block d xs)) w said (written_is d xs sound plain, on) t)

block_last : (s : Structure) (d : ℕ) (xs w : List ℕ) → has d 32 ≡ false → has d 16 ≡ false → has d 64 ≡ true
    → IsText Blocks s (block_text d xs ++ w) (octets_said xs ++ ends_of d)
unfolding written_block
block_last s d xs w sound plain last =
    let kind : block_said (written_block d xs) ≡ octets_said xs ++ ends_of d = rw plain refl in
    text_is Blocks s (block_text d xs ++ w) (block_text d xs ++ w) (block_said (written_block d xs)) (octets_said xs ++ ends_of d) refl kind
    (text_last Blocks s (whole (written_block d xs)) w (written_is d xs sound plain) last)

-- blocks with no ends, in front of a text of the rest
said_split : (n : ℕ) (xs : List ℕ) (rest : List Said) → (octets_said (take n xs) ++ []) ++ (octets_said (drop n xs) ++ rest) ≡ octets_said xs ++ rest
said_split n xs rest =
    ap (λ l. l ++ (octets_said (drop n xs) ++ rest)) (append-nil (octets_said (take n xs)))
    ∙ sym (append_assoc (octets_said (take n xs)) (octets_said (drop n xs)) rest)
    ∙ ap (λ l. l ++ rest) (sym (map-append (λ c. says (octet c)) (take n xs) (drop n xs)) ∙ ap octets_said (take-append-drop n xs))

pub blocks_more : (s : Structure) (k d : ℕ) (xs w : List ℕ) (said : List Said) → has d 32 ≡ false → has d 16 ≡ false → has d 64 ≡ false
    → IsText Blocks s w said → IsText Blocks s (blocks_text k d xs ++ w) (octets_said xs ++ (ends_of d ++ said))
blocks_more s zero d xs w said sound plain on t =
    text_is Blocks s (block_text d xs ++ w) (block_text d xs ++ w) ((octets_said xs ++ ends_of d) ++ said) (octets_said xs ++ (ends_of d ++ said)) refl
    (append_assoc (octets_said xs) (ends_of d) said) (block_more s d xs w said sound plain on t)
blocks_more s (suc k) d xs w said sound plain on t =
    text_is Blocks s (block_text 0 (take 8192 xs) ++ (blocks_text k d (drop 8192 xs) ++ w)) (blocks_text (suc k) d xs ++ w)
    ((octets_said (take 8192 xs) ++ []) ++ (octets_said (drop 8192 xs) ++ (ends_of d ++ said))) (octets_said xs ++ (ends_of d ++ said))
    (sym (append_assoc (block_text 0 (take 8192 xs)) (blocks_text k d (drop 8192 xs)) w)) (said_split 8192 xs (ends_of d ++ said))
    (block_more s 0 (take 8192 xs) (blocks_text k d (drop 8192 xs) ++ w) (octets_said (drop 8192 xs) ++ (ends_of d ++ said)) refl refl refl
    (blocks_more s k d (drop 8192 xs) w said sound plain on t))

pub blocks_last : (s : Structure) (k d : ℕ) (xs w : List ℕ) → has d 32 ≡ false → has d 16 ≡ false → has d 64 ≡ true
    → IsText Blocks s (blocks_text k d xs ++ w) (octets_said xs ++ ends_of d)
blocks_last s zero d xs w sound plain last = block_last s d xs w sound plain last
blocks_last s (suc k) d xs w sound plain last =
    text_is Blocks s (block_text 0 (take 8192 xs) ++ (blocks_text k d (drop 8192 xs) ++ w)) (blocks_text (suc k) d xs ++ w)
    ((octets_said (take 8192 xs) ++ []) ++ (octets_said (drop 8192 xs) ++ ends_of d)) (octets_said xs ++ ends_of d)
    (sym (append_assoc (block_text 0 (take 8192 xs)) (blocks_text k d (drop 8192 xs)) w)) (said_split 8192 xs (ends_of d))
    (block_more s 0 (take 8192 xs) (blocks_text k d (drop 8192 xs) ++ w) (octets_said (drop 8192 xs) ++ ends_of d) refl refl refl
    (blocks_last s k d (drop 8192 xs) w sound plain last))

push_said : (before : List ℕ) (c : ℕ) (rest : List Said) → octets_said (before ++ c ∷ []) ++ rest ≡ octets_said before ++ says (octet c) ∷ rest
push_said before c rest = ap (λ l. l ++ rest) (map-append (λ x. says (octet x)) before (c ∷ [])) ∙ append_assoc (octets_said before) (says (octet c) ∷ []) rest

-- the text of a file in blocks
pub rows_are_text : (s : Structure) (before : List ℕ) (ss : List Sign) (more : List ℕ) → IsWhole ss → IsText Blocks s (rows_text before ss ++ more) (octets_said before ++ row_said ss)
rows_are_text s before [] more h = absurd h
rows_are_text s before (octet c ∷ ss) more h =
    text_is Blocks s (rows_text before (octet c ∷ ss) ++ more) (rows_text before (octet c ∷ ss) ++ more) (octets_said (before ++ c ∷ []) ++ row_said ss) (octets_said before ++ row_said (octet c ∷ ss))
    refl (push_said before c (row_said ss)) (rows_are_text s (before ++ c ∷ []) ss more h)
rows_are_text s before (end_record ∷ []) more h = absurd h
rows_are_text s before (end_record ∷ octet c ∷ ss) more h =
    text_is Blocks s (data_text 128 before ++ (rows_text [] (octet c ∷ ss) ++ more)) (rows_text before (end_record ∷ octet c ∷ ss) ++ more)
    (octets_said before ++ (ends_of 128 ++ row_said (octet c ∷ ss))) (octets_said before ++ row_said (end_record ∷ octet c ∷ ss))
    (sym (append_assoc (data_text 128 before) (rows_text [] (octet c ∷ ss)) more)) refl
    (blocks_more s ((length before - 1) / 8192) 128 before (rows_text [] (octet c ∷ ss) ++ more) (row_said (octet c ∷ ss)) refl refl refl (rows_are_text s [] (octet c ∷ ss) more h))
rows_are_text s before (end_record ∷ end_record ∷ ss) more h =
    text_is Blocks s (data_text 128 before ++ (rows_text [] (end_record ∷ ss) ++ more)) (rows_text before (end_record ∷ end_record ∷ ss) ++ more)
    (octets_said before ++ (ends_of 128 ++ row_said (end_record ∷ ss))) (octets_said before ++ row_said (end_record ∷ end_record ∷ ss))
    (sym (append_assoc (data_text 128 before) (rows_text [] (end_record ∷ ss)) more)) refl
    (blocks_more s ((length before - 1) / 8192) 128 before (rows_text [] (end_record ∷ ss) ++ more) (row_said (end_record ∷ ss)) refl refl refl (rows_are_text s [] (end_record ∷ ss) more h))
rows_are_text s before (end_record ∷ end_file ∷ ss) more h =
    let P : List Sign → Type 0 = λ l. IsText Blocks s (data_text 192 before ++ more) (octets_said before ++ row_said (end_record ∷ end_file ∷ l)) in
    subst P (sym h) (blocks_last s ((length before - 1) / 8192) 192 before more refl refl refl)
rows_are_text s before (end_file ∷ ss) more h =
    let P : List Sign → Type 0 = λ l. IsText Blocks s (data_text 64 before ++ more) (octets_said before ++ row_said (end_file ∷ l)) in
    subst P (sym h) (blocks_last s ((length before - 1) / 8192) 64 before more refl refl refl)
