-- Runs of octets: out of a block by slices, and into one.
use Rattle.std.proofs.Common.{◌≡◌, ◌≢◌, ℕ, zero, suc, ◌+◌, ◌-◌, ◌≤◌, List, [], ◌∷◌, ◌++◌, length, take, drop, map, false, ◌==◌, refl, ap, sym, ◌∙◌, arith, append_assoc, append-nil, length-append}
use Rattle.std.proofs.lemmas.Bool.{ne_eqb}
use Rattle.std.proofs.lemmas.List.{drop-map, map-append, take-append-drop}
use Rattle.ftp_pieces.specs.Machine.{after, gives}
use Rattle.ftp_repr.specs.Signs.{Sign, octet}
use Rattle.ftp_pieces.proofs.MachineLemmas.{gives-append}
use Rattle.ftp_mode.specs.Block.{block_text}
use Rattle.ftp_mode.specs.Count.{count_on}
use Rattle.ftp_mode.specs.declared.framer.Framer.{Framer}
use Rattle.ftp_mode.specs.Writing.{Counting, never, unmarked, counted, filling, is_due, counted_on, counted_far, IsCount, IsFar, writer}
use Rattle.ftp_mode.specs.Framing.{writing, writing_of, counting, still_to_write, is_open, IsClear, FillsBlock, TakesRun}
use Rattle.ftp_mode.proofs.FramingLemmas.{clear_owes}

-- behind the header stand the octets
pub block_rest : (d : ℕ) (xs : List ℕ) (place : ℕ) → 3 ≤ place → drop place (block_text d xs) ≡ drop (place - 3) xs
block_rest d xs zero h = absurd (omega arith)
block_rest d xs (suc zero) h = absurd (omega arith)
block_rest d xs (suc (suc zero)) h = absurd (omega arith)
block_rest d xs (suc (suc (suc n))) h = let same : n ≡ suc (suc (suc n)) - 3 = omega arith in ap (λ k. drop k xs) same

-- COUNTS

none_far : (n : Counting) → IsCount n → counted_far n 0 ≡ n
none_far never h = refl
none_far unmarked h = refl
none_far (counted since count) h = let same : count_on count 0 ≡ count = omega arith in ap (counted since) same

one_far : (n : Counting) (k : ℕ) → counted_far (counted_on n) k ≡ counted_far n (suc k)
one_far never k = refl
one_far unmarked k = refl
one_far (counted since count) k = let same : count_on (count_on count 1) k ≡ count_on count (suc k) = omega arith in ap (counted since) same

next_count : (n : Counting) → IsCount n → IsCount (counted_on n)
next_count never h = h
next_count unmarked h = h
next_count (counted since count) h = omega arith

next_far : (n : Counting) (len : ℕ) → IsFar n (suc len) → IsFar (counted_on n) len
next_far n len far k less = ap is_due (one_far n k) ∙ far (suc k) (omega arith)

-- RUNS

-- octets that one block holds, with no marker before them
pub record IsFilled (xs : List ℕ) (n : Counting) (ys : List ℕ) : Type 0 where
  pub state : after writer (filling xs n) (map octet ys) ≡ filling (xs ++ ys) (counted_far n (length ys))
  pub quiet : gives writer (filling xs n) (map octet ys) ≡ []

not_full : (xs : List ℕ) (c : ℕ) (ys : List ℕ) → length xs + length (c ∷ ys) ≤ 8192 → (length xs == 8192) ≡ false
not_full xs c ys h = let less : length xs ≢ 8192 = omega arith in ne_eqb (length xs) 8192 less

pub filled_run : (xs : List ℕ) (n : Counting) (ys : List ℕ) → IsCount n → length xs + length ys ≤ 8192 → IsFar n (length ys) → IsFilled xs n ys
filled_run xs n [] fits room far = record { state = ap (λ l. filling l n) (sym (append-nil xs)) ∙ ap (filling (xs ++ [])) (sym (none_far n fits)); quiet = refl }
filled_run xs n (c ∷ ys) fits room far =
    let due : is_due n ≡ false = ap is_due (sym (none_far n fits)) ∙ far 0 (omega arith) in
    let full = not_full xs c ys room in
    let longer : length (xs ++ c ∷ []) + length ys ≤ 8192 = omega (arith, length-append xs (c ∷ []), room) in
    let rest = filled_run (xs ++ c ∷ []) (counted_on n) ys (next_count n fits) longer (next_far n (length ys) far) in
    let step : writer.step (filling xs n) (octet c) ≡ filling (xs ++ c ∷ []) (counted_on n) = rw (due, full) refl in
    let out : writer.out (filling xs n) (octet c) ≡ [] = rw (due, full) refl in
    record {
      state = ap (λ s. after writer s (map octet ys)) step ∙ rest.state
          ∙ ap (λ l. filling l (counted_far (counted_on n) (length ys))) (append_assoc xs (c ∷ []) ys)
          ∙ ap (filling (xs ++ c ∷ ys)) (one_far n (length ys));
      quiet = ap (λ l. l ++ gives writer (writer.step (filling xs n) (octet c)) (map octet ys)) out ∙ ap (λ s. gives writer s (map octet ys)) step ∙ rest.quiet;
    }

pub fill_takes : (f g : Framer) (xs : List ℕ) → IsClear f → FillsBlock f (length xs) → IsCount (counting f.marks) → g.stage ≡ f.stage → g.block.items ≡ f.block.items ++ xs
    → counting g.marks ≡ counted_far (counting f.marks) (length xs) → g.owed.items ≡ f.owed.items → TakesRun f xs g
fill_takes f g xs clear fills fits stage block marks owes =
    let before : writing f ≡ filling f.block.items (counting f.marks) = ap (λ s. writing_of s f.block.items (counting f.marks)) fills.stage in
    let run = filled_run f.block.items (counting f.marks) xs fits fills.room fills.far in
    let now : writing g ≡ filling (f.block.items ++ xs) (counted_far (counting f.marks) (length xs)) =
    ap (λ s. writing_of s g.block.items (counting g.marks)) (stage ∙ fills.stage) ∙ ap (λ l. filling l (counting g.marks)) block ∙ ap (filling (f.block.items ++ xs)) marks in
    record {
      state = now ∙ sym run.state ∙ ap (λ s. after writer s (map octet xs)) (sym before);
      quiet = ap (λ s. gives writer s (map octet xs)) before ∙ run.quiet;
      clear = record { open_stage = ap is_open stage ∙ clear.open_stage; empty = owes ∙ clear.empty };
    }

-- what follows a run
pub run_text : (f g : Framer) (xs : List ℕ) (more : List Sign) → IsClear f → TakesRun f xs g → still_to_write f (map octet xs ++ more) ≡ still_to_write g more
run_text f g xs more clear takes =
    ap (λ l. l ++ gives writer (writing f) (map octet xs ++ more)) (clear_owes f clear)
    ∙ gives-append writer (writing f) (map octet xs) more
    ∙ ap (λ l. l ++ gives writer (after writer (writing f) (map octet xs)) more) takes.quiet
    ∙ ap (λ s. gives writer s more) (sym takes.state)
    ∙ ap (λ l. l ++ gives writer (writing g) more) (sym (clear_owes g takes.clear))

-- the run in front of a piece
pub front_text : (f g : Framer) (piece : List ℕ) (n : ℕ) (more : List Sign) → IsClear f → TakesRun f (take n piece) g
    → still_to_write f (map octet piece ++ more) ≡ still_to_write g (drop n (map octet piece) ++ more)
front_text f g piece n more clear takes =
    ap (λ l. still_to_write f (l ++ more)) (ap (map octet) (sym (take-append-drop n piece)) ∙ map-append octet (take n piece) (drop n piece))
    ∙ ap (still_to_write f) (append_assoc (map octet (take n piece)) (map octet (drop n piece)) more)
    ∙ run_text f g (take n piece) (map octet (drop n piece) ++ more) clear takes
    ∙ ap (λ l. still_to_write g (l ++ more)) (sym (drop-map octet n piece))
