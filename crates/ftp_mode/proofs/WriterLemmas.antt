-- The writer gives the one text.
use Rattle.std.proofs.Common.{◌≡◌, ℕ, suc, ◌-◌, ◌/◌, ◌≤◌, inl, inr, List, [], ◌∷◌, ◌++◌, length, take, drop, false, ◌==◌, refl, ap, sym, ◌∙◌, arith, append_assoc, append-nil, length-append}
use Rattle.std.proofs.lemmas.Bool.{eqb-true, eqb-false}
use Rattle.std.proofs.lemmas.List.{take_at}
use Rattle.std.proofs.Math.Seq.{drop-append_seam}
use Rattle.ftp_pieces.specs.Machine.{gives}
use Rattle.ftp_repr.specs.Signs.{Sign, octet, end_record, end_file}
use Rattle.ftp_repr.proofs.AsciiLemmas.{decided}
use Rattle.ftp_repr.proofs.SignLemmas.{IsWhole}
use Rattle.ftp_mode.specs.Stream.{escaped_octet, plain_text, record_text}
use Rattle.ftp_mode.specs.Block.{block_text, blocks_text, data_text, rows_text}
use Rattle.ftp_mode.specs.Writing.{copying, free, filling, closed, Counting, is_due, counted_on, writer}

pub gives-closed : (ss : List Sign) → gives writer closed ss ≡ []
gives-closed [] = refl
gives-closed (x ∷ ss) = gives-closed ss

pub gives-copying : (ss : List Sign) → gives writer copying ss ≡ plain_text ss
gives-copying [] = refl
gives-copying (octet c ∷ ss) = ap (λ l. c ∷ l) (gives-copying ss)
gives-copying (end_record ∷ ss) = gives-copying ss
gives-copying (end_file ∷ ss) = gives-closed ss

pub gives-free : (ss : List Sign) → gives writer free ss ≡ record_text ss
gives-free [] = refl
gives-free (octet c ∷ ss) = ap (λ l. escaped_octet c ++ l) (gives-free ss)
gives-free (end_file ∷ ss) = ap (λ l. 255 ∷ 2 ∷ l) (gives-closed ss)
gives-free (end_record ∷ []) = refl
gives-free (end_record ∷ end_file ∷ ss) = ap (λ l. 255 ∷ 3 ∷ l) (gives-closed ss)
gives-free (end_record ∷ octet c ∷ ss) = ap (λ l. 255 ∷ 1 ∷ l) (gives-free (octet c ∷ ss))
gives-free (end_record ∷ end_record ∷ ss) = ap (λ l. 255 ∷ 1 ∷ l) (gives-free (end_record ∷ ss))

-- octets that one block holds
pub data_small : (d : ℕ) (xs : List ℕ) → length xs ≤ 8192 → data_text d xs ≡ block_text d xs
data_small d xs short = let none : (length xs - 1) / 8192 ≡ 0 = omega arith in ap (λ k. blocks_text k d xs) none

-- a full block, and more
pub data_full : (d : ℕ) (xs : List ℕ) (c : ℕ) (ys : List ℕ) → length xs ≡ 8192 → data_text d (xs ++ c ∷ ys) ≡ block_text 0 xs ++ data_text d (c ∷ ys)
data_full d xs c ys full =
    let count : (length (xs ++ c ∷ ys) - 1) / 8192 ≡ suc ((length (c ∷ ys) - 1) / 8192) = omega (arith, full, length-append xs (c ∷ ys)) in
    let front : take 8192 (xs ++ c ∷ ys) ≡ xs = take_at xs (c ∷ ys) 8192 full in
    let back : drop 8192 (xs ++ c ∷ ys) ≡ c ∷ ys = ap (λ k. drop k (xs ++ c ∷ ys)) (sym full) ∙ drop-append_seam xs (c ∷ ys) in
    ap (λ k. blocks_text k d (xs ++ c ∷ ys)) count
    ∙ ap (λ l. block_text 0 l ++ blocks_text ((length (c ∷ ys) - 1) / 8192) d (drop 8192 (xs ++ c ∷ ys))) front
    ∙ ap (λ l. block_text 0 xs ++ blocks_text ((length (c ∷ ys) - 1) / 8192) d l) back

rows_full : (xs : List ℕ) (c : ℕ) (ys : List ℕ) (ss : List Sign) → length xs ≡ 8192 → IsWhole ss → rows_text (xs ++ c ∷ ys) ss ≡ block_text 0 xs ++ rows_text (c ∷ ys) ss
rows_full xs c ys [] full h = absurd h
rows_full xs c ys (octet x ∷ ss) full h = ap (λ l. rows_text l ss) (append_assoc xs (c ∷ ys) (x ∷ [])) ∙ rows_full xs c (ys ++ x ∷ []) ss full h
rows_full xs c ys (end_record ∷ []) full h = absurd h
rows_full xs c ys (end_record ∷ octet x ∷ ss) full h =
    ap (λ l. l ++ rows_text [] (octet x ∷ ss)) (data_full 128 xs c ys full) ∙ append_assoc (block_text 0 xs) (data_text 128 (c ∷ ys)) (rows_text [] (octet x ∷ ss))
rows_full xs c ys (end_record ∷ end_record ∷ ss) full h =
    ap (λ l. l ++ rows_text [] (end_record ∷ ss)) (data_full 128 xs c ys full) ∙ append_assoc (block_text 0 xs) (data_text 128 (c ∷ ys)) (rows_text [] (end_record ∷ ss))
rows_full xs c ys (end_record ∷ end_file ∷ ss) full h = data_full 192 xs c ys full
rows_full xs c ys (end_file ∷ ss) full h = data_full 64 xs c ys full

append_nil_by : (xs ys : List ℕ) → ys ≡ [] → xs ++ ys ≡ xs
append_nil_by xs ys e = ap (λ l. xs ++ l) e ∙ append-nil xs

-- no own markers
pub record IsQuiet (n : Counting) : Type 0 where
  pub due : is_due n ≡ false
  pub same : counted_on n ≡ n

pub gives-filling : (n : Counting) (xs : List ℕ) (ss : List Sign) → IsQuiet n → length xs ≤ 8192 → IsWhole ss → gives writer (filling xs n) ss ≡ rows_text xs ss
gives-filling n xs [] q short h = absurd h
gives-filling n xs (octet c ∷ ss) q short h =
    let due = q.due in
    let same = q.same in
    elim (decided (length xs == 8192)) [
      | inl e ↦ rw (due, e) (ap (λ m. block_text 0 xs ++ gives writer (filling (c ∷ []) m) ss) same
          ∙ ap (λ l. block_text 0 xs ++ l) (gives-filling n (c ∷ []) ss q (omega arith) h) ∙ sym (rows_full xs c [] ss (eqb-true (length xs) 8192 e) h))
      | inr e ↦ rw (due, e) (ap (λ m. gives writer (filling (xs ++ c ∷ []) m) ss) same
          ∙ gives-filling n (xs ++ c ∷ []) ss q (omega (arith, short, eqb-false (length xs) 8192 e, length-append xs (c ∷ []))) h)
    ]
gives-filling n xs (end_record ∷ []) q short h = absurd h
gives-filling n xs (end_record ∷ octet c ∷ ss) q short h =
    let due = q.due in
    ap (λ l. l ++ gives writer (writer.step (filling [] n) (octet c)) ss) (append_nil_by (block_text 128 xs) (writer.out (filling [] n) (octet c)) (rw due refl))
    ∙ ap (λ l. block_text 128 xs ++ l) (sym (ap (λ l. l ++ gives writer (writer.step (filling [] n) (octet c)) ss) (let none : writer.out (filling [] n) (octet c) ≡ [] = rw due refl in none)))
    ∙ ap (λ l. block_text 128 xs ++ l) (gives-filling n [] (octet c ∷ ss) q (omega arith) h)
    ∙ ap (λ l. l ++ rows_text [] (octet c ∷ ss)) (sym (data_small 128 xs short))
gives-filling n xs (end_record ∷ end_record ∷ ss) q short h =
    ap (λ l. block_text 128 xs ++ l) (gives-filling n [] (end_record ∷ ss) q (omega arith) h)
    ∙ ap (λ l. l ++ rows_text [] (end_record ∷ ss)) (sym (data_small 128 xs short))
gives-filling n xs (end_record ∷ end_file ∷ ss) q short h =
    ap (λ l. block_text 192 xs ++ l) (gives-closed ss) ∙ append-nil (block_text 192 xs) ∙ sym (data_small 192 xs short)
gives-filling n xs (end_file ∷ ss) q short h =
    ap (λ l. block_text 64 xs ++ l) (gives-closed ss) ∙ append-nil (block_text 64 xs) ∙ sym (data_small 64 xs short)
