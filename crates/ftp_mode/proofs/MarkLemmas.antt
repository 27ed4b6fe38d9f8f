-- Own markers: the writer gives the one text.
use Rattle.std.proofs.Common.{◌≡◌, ◌≢◌, ℕ, zero, suc, ◌+◌, ◌-◌, ◌%◌, ◌<◌, ◌≤◌, ◌^◌, ◌⊎◌, inl, inr, List, [], ◌∷◌, ◌++◌, map, length, take, drop, Bool, true, false, ◌==◌, ◌&&◌, ltb, lt-ltb, le-ltb, refl, ap, sym, ◌∙◌, arith, append_assoc, append-nil, length-append, length-drop}
use Rattle.std.proofs.lemmas.Bool.{eqb-true, eqb-false, ne_eqb, eq-eqb, cases_lt}
use Rattle.std.proofs.lemmas.List.{take_at}
use Rattle.std.proofs.Math.Seq.{take-append-add, drop-append-add, drop-append_seam}
use Rattle.ftp_pieces.specs.Machine.{gives}
use Rattle.ftp_repr.specs.Signs.{Sign, octet, end_file}
use Rattle.ftp_repr.proofs.AsciiLemmas.{decided}
use Rattle.ftp_mode.specs.Marker.{to_place, places}
use Rattle.ftp_mode.specs.Block.{block_text, marker_text, data_text, marks_text, marked_text}
use Rattle.ftp_mode.specs.Count.{next}
use Rattle.ftp_mode.specs.Writing.{filling, counted, is_due, writer}
use Rattle.ftp_mode.proofs.WriterLemmas.{data_small, data_full}

no_places : (start n : ℕ) → n ≤ to_place start → places start n ≡ 0
no_places start n short = omega arith

some_places : (start n : ℕ) → to_place start < n → places start n ≡ suc (places (start + to_place start) (n - to_place start))
some_places start n more = omega arith

-- no place before the end
marked_short : (start : ℕ) (b : List ℕ) → length b ≤ to_place start → marked_text start b ≡ data_text 64 b
marked_short start b short = ap (λ k. marks_text k start b) (no_places start (length b) short)

-- the first place, and the rest
marked_more : (start : ℕ) (b : List ℕ) → to_place start < length b
    → marked_text start b ≡ data_text 0 (take (to_place start) b) ++ (marker_text (start + to_place start) ++ marked_text (start + to_place start) (drop (to_place start) b))
marked_more start b more =
    let p = to_place start in
    let count : places start (length b) ≡ suc (places (start + p) (length (drop p b))) =
    some_places start (length b) more ∙ ap (λ k. suc (places (start + p) k)) (sym (length-drop p b)) in
    ap (λ k. marks_text k start b) count

take_first : (q c : ℕ) (ys : List ℕ) → 0 < q → take q (c ∷ ys) ≡ c ∷ take (q - 1) ys
take_first zero c ys some = absurd (omega arith)
take_first (suc q) c ys some = let e : suc q - 1 ≡ q = omega arith in ap (λ k. c ∷ take k ys) (sym e)

-- a full block before the first place
marked_full : (start : ℕ) (xs : List ℕ) (c : ℕ) (ys : List ℕ) → length xs ≡ 8192 → 8192 < to_place start
    → marked_text start (xs ++ c ∷ ys) ≡ block_text 0 xs ++ marked_text (start + 8192) (c ∷ ys)
marked_full start xs c ys full far =
    let p = to_place start in
    let q = to_place (start + 8192) in
    let same : p ≡ 8192 + q = omega (arith, far) in
    let some : 0 < q = omega arith in
    let total = length-append xs (c ∷ ys) in
    elim (cases_lt q (length (c ∷ ys))) [
      | inl more ↦ (
          let front : take p (xs ++ c ∷ ys) ≡ xs ++ take q (c ∷ ys) = ap (λ k. take k (xs ++ c ∷ ys)) (same ∙ ap (λ k. k + q) (sym full)) ∙ take-append-add xs (c ∷ ys) q in
          let back : drop p (xs ++ c ∷ ys) ≡ drop q (c ∷ ys) = ap (λ k. drop k (xs ++ c ∷ ys)) (same ∙ ap (λ k. k + q) (sym full)) ∙ drop-append-add xs (c ∷ ys) q in
          let first : take q (c ∷ ys) ≡ c ∷ take (q - 1) ys = take_first q c ys some in
          let there : start + p ≡ start + 8192 + q = omega (arith, same) in
          let rest = marker_text (start + 8192 + q) ++ marked_text (start + 8192 + q) (drop q (c ∷ ys)) in
          marked_more start (xs ++ c ∷ ys) (omega (arith, same, total, full, more))
          ∙ ap (λ l. data_text 0 l ++ (marker_text (start + p) ++ marked_text (start + p) (drop p (xs ++ c ∷ ys)))) (front ∙ ap (λ l. xs ++ l) first)
          ∙ ap (λ l. data_text 0 (xs ++ c ∷ take (q - 1) ys) ++ (marker_text (start + p) ++ marked_text (start + p) l)) back
          ∙ ap (λ k. data_text 0 (xs ++ c ∷ take (q - 1) ys) ++ (marker_text k ++ marked_text k (drop q (c ∷ ys)))) there
          ∙ ap (λ l. l ++ rest) (data_full 0 xs c (take (q - 1) ys) full)
          ∙ append_assoc (block_text 0 xs) (data_text 0 (c ∷ take (q - 1) ys)) rest
          ∙ ap (λ l. block_text 0 xs ++ (data_text 0 l ++ rest)) (sym first)
          ∙ ap (λ l. block_text 0 xs ++ l) (sym (marked_more (start + 8192) (c ∷ ys) more)))
      | inr short ↦ marked_short start (xs ++ c ∷ ys) (omega (arith, same, total, full, short)) ∙ data_full 64 xs c ys full
          ∙ ap (λ l. block_text 0 xs ++ l) (sym (marked_short (start + 8192) (c ∷ ys) short))
    ]

-- a block that ends at a place
marked_place : (start : ℕ) (xs : List ℕ) (c : ℕ) (ys : List ℕ) → length xs ≡ to_place start → length xs ≤ 8192
    → marked_text start (xs ++ c ∷ ys) ≡ block_text 0 xs ++ (marker_text (start + length xs) ++ marked_text (start + length xs) (c ∷ ys))
marked_place start xs c ys there short =
    let p = to_place start in
    let front : take p (xs ++ c ∷ ys) ≡ xs = take_at xs (c ∷ ys) p there in
    let back : drop p (xs ++ c ∷ ys) ≡ c ∷ ys = ap (λ k. drop k (xs ++ c ∷ ys)) (sym there) ∙ drop-append_seam xs (c ∷ ys) in
    marked_more start (xs ++ c ∷ ys) (omega (arith, there, length-append xs (c ∷ ys)))
    ∙ ap (λ l. data_text 0 l ++ (marker_text (start + p) ++ marked_text (start + p) (drop p (xs ++ c ∷ ys)))) front
    ∙ ap (λ l. data_text 0 xs ++ (marker_text (start + p) ++ marked_text (start + p) l)) back
    ∙ ap (λ l. l ++ (marker_text (start + p) ++ marked_text (start + p) (c ∷ ys))) (data_small 0 xs short)
    ∙ ap (λ k. block_text 0 xs ++ (marker_text (start + k) ++ marked_text (start + k) (c ∷ ys))) (sym there)

false_by : (a b : Bool) → b ≡ false → (a && b) ≡ false
false_by true b e = e
false_by false b e = refl

-- the state of the writer in a block that began at `from`: no place lies inside the block
record Within (from since count : ℕ) (xs : List ℕ) : Type 0 where
  counts : count ≡ from + length xs
  short : length xs ≤ 8192
  near : length xs ≤ to_place from
  last : since ≤ from
  fresh : (since ≡ from) ⊎ (from % 65536 ≢ 0)

due_there : (from since count : ℕ) (xs : List ℕ) → Within from since count xs → length xs ≡ to_place from → is_due (counted since count) ≡ true
due_there from since count xs w there =
    let later : ltb since count ≡ true = lt-ltb since count (omega (arith, w.counts, w.last, there)) in
    let at : (count % 65536 == 0) ≡ true = eq-eqb (count % 65536) 0 (omega (arith, w.counts, there)) in
    rw (later, at) refl

not_due : (from since count : ℕ) (xs : List ℕ) → Within from since count xs → length xs < to_place from → is_due (counted since count) ≡ false
not_due from since count xs w before =
    elim (cases_lt 0 (length xs)) [
      | inl some ↦ (let at : (count % 65536 == 0) ≡ false = ne_eqb (count % 65536) 0 (λ q. omega (arith, w.counts, before, some, q)) in
          false_by (ltb since count) (count % 65536 == 0) at)
      | inr none ↦ elim w.fresh [
        | inl same ↦ (let early : ltb since count ≡ false = le-ltb since count (omega (arith, w.counts, same, none)) in rw early refl)
        | inr off ↦ (let at : (count % 65536 == 0) ≡ false = ne_eqb (count % 65536) 0 (λ q. off (omega (arith, w.counts, none, q))) in
            false_by (ltb since count) (count % 65536 == 0) at)
      ]
    ]

abbrev pub plain_row : List ℕ → List Sign
plain_row ys = map octet ys ++ end_file ∷ []

gives-within : (ys xs : List ℕ) (from since count : ℕ) → Within from since count xs → count + length ys < 2 ^ 64
    → gives writer (filling xs (counted since count)) (plain_row ys) ≡ marked_text from (xs ++ ys)
gives-within [] xs from since count w fits =
    append-nil (block_text 64 xs) ∙ sym (data_small 64 xs w.short) ∙ sym (marked_short from xs w.near) ∙ ap (marked_text from) (sym (append-nil xs))
gives-within (c ∷ ys) xs from since count w fits =
    let one : next count ≡ count + 1 = omega (arith, fits) in
    let counts = w.counts in
    elim (decided (length xs == to_place from)) [
      | inl e ↦ (
          let there = eqb-true (length xs) (to_place from) e in
          let due = due_there from since count xs w there in
          let inner : Within count count (next count) (c ∷ []) = record { counts = one; short = omega arith; near = omega arith; last = omega arith; fresh = inl refl } in
          rw due (append_assoc (block_text 0 xs) (marker_text count) (gives writer (filling (c ∷ []) (counted count (next count))) (plain_row ys))
          ∙ ap (λ l. block_text 0 xs ++ (marker_text count ++ l)) (gives-within ys (c ∷ []) count count (next count) inner (omega (arith, one, fits)))
          ∙ ap (λ k. block_text 0 xs ++ (marker_text k ++ marked_text k (c ∷ ys))) counts ∙ sym (marked_place from xs c ys there w.short)))
      | inr e ↦ (
          let before : length xs < to_place from = omega (arith, w.near, eqb-false (length xs) (to_place from) e) in
          let quiet = not_due from since count xs w before in
          elim (decided (length xs == 8192)) [
            | inl f ↦ (
                let full = eqb-true (length xs) 8192 f in
                let inner : Within (from + 8192) since (next count) (c ∷ []) = record {
                  counts = omega (arith, one, counts, full);
                  short = omega arith;
                  near = omega arith;
                  last = omega (arith, w.last);
                  fresh = inr (λ q. omega (arith, q, before, full));
                } in
                rw (quiet, f) (ap (λ l. block_text 0 xs ++ l) (gives-within ys (c ∷ []) (from + 8192) since (next count) inner (omega (arith, one, fits)))
                ∙ sym (marked_full from xs c ys full (omega (arith, before, full)))))
            | inr f ↦ (
                let inner : Within from since (next count) (xs ++ c ∷ []) = record {
                  counts = omega (arith, one, counts, length-append xs (c ∷ []));
                  short = omega (arith, w.short, eqb-false (length xs) 8192 f, length-append xs (c ∷ []));
                  near = omega (arith, before, length-append xs (c ∷ []));
                  last = w.last;
                  fresh = w.fresh;
                } in
                rw (quiet, f) (gives-within ys (xs ++ c ∷ []) from since (next count) inner (omega (arith, one, fits)) ∙ ap (marked_text from) (append_assoc xs (c ∷ []) ys)))
          ])
    ]

-- the writer with own markers gives the one text
pub gives-marked : (start : ℕ) (b : List ℕ) → start + length b < 2 ^ 64 → gives writer (filling [] (counted start start)) (plain_row b) ≡ marked_text start b
gives-marked start b fits =
    gives-within b [] start start start (record { counts = omega arith; short = omega arith; near = omega arith; last = omega arith; fresh = inl refl }) fits
