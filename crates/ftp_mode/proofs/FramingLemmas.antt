-- What leaves a framer, and what it takes.
use Rattle.std.proofs.Common.{◌≡◌, ◌+◌, ◌<◌, ◌≤◌, ℕ, List, [], ◌∷◌, ◌++◌, length, take, drop, map, set, get_or, true, refl, ap, sym, ◌∙◌, append_assoc, length-append}
use Rattle.std.specs.Prelude.{if◌then◌else◌, ◌==◌, Bool, false}
use Rattle.std.specs.List.{AllByRecursion}
use Rattle.std.proofs.lemmas.List.{take_more_set, drop_more, drop-map, length-take-le}
use Rattle.ftp_pieces.specs.Machine.{after, gives}
use Rattle.ftp_repr.specs.Signs.{Sign, octet, end_record}
use Rattle.ftp_mode.specs.declared.framer.Stage.{Stage}
use Rattle.ftp_mode.specs.declared.framer.Stage.TheVariants.{Copying, Free, Held, Filling, AtRecord, Leaving, Last, Closed}
use Rattle.std.proofs.lemmas.Bool.{false≢true}
use Rattle.ftp_mode.specs.declared.framer.Framer.{Framer}
use Rattle.ftp_mode.specs.Writing.{Writing, Counting, copying, free, held, filling, at_record, closed, is_due, marked, counted_on, manner, writer, write_step, write_out}
use Rattle.ftp_mode.specs.declared.framer.Manner.TheVariants.{Blocks}
use Rattle.ftp_mode.specs.Framing.{writing, owed_block, owed_octets, still_to_write, is_open, IsClear, Takes, Waits, AreRun, TakesRun}

-- an octet goes into the room
pub copy_step : (room text : List ℕ) (made next : ℕ) (v : ℕ) → made < length room → next < length text → v ≡ get_or text next 0
    → take (made + 1) (set room made v) ++ drop (next + 1) text ≡ take made room ++ drop next text
copy_step room text made next v in_room in_text is =
    ap (λ l. l ++ drop (next + 1) text) (take_more_set room made v in_room)
    ∙ append_assoc (take made room) (v ∷ []) (drop (next + 1) text)
    ∙ ap (λ x. take made room ++ x ∷ drop (next + 1) text) is
    ∙ ap (λ l. take made room ++ l) (sym (drop_more text next 0 in_text))

-- where no block is decided nothing of one is owed
pub open_block : (s : Stage) (xs : List ℕ) → is_open s ≡ true → owed_block s xs ≡ []
open_block Copying xs e = refl
open_block Free xs e = refl
open_block Held xs e = refl
open_block Filling xs e = refl
open_block AtRecord xs e = refl
open_block (Leaving d at) xs e = absurd (false≢true e)
open_block (Last d at) xs e = absurd (false≢true e)
open_block Closed xs e = refl

-- where all is out nothing is owed
pub clear_owes : (f : Framer) → IsClear f → owed_octets f ≡ []
clear_owes f clear = ap (λ l. l ++ f.owed.items) (open_block f.stage f.block.items clear.open_stage) ∙ clear.empty

-- what is moved out changes nothing of what follows
pub moved_text : (f g : Framer) (a b : List ℕ) (ss : List Sign) → a ++ owed_octets f ≡ b ++ owed_octets g → writing f ≡ writing g
    → a ++ still_to_write f ss ≡ b ++ still_to_write g ss
moved_text f g a b ss moved same =
    sym (append_assoc a (owed_octets f) (gives writer (writing f) ss))
    ∙ ap (λ l. l ++ gives writer (writing f) ss) moved
    ∙ append_assoc b (owed_octets g) (gives writer (writing f) ss)
    ∙ ap (λ s. b ++ (owed_octets g ++ gives writer s ss)) same

pub takes_text : (f g : Framer) (x : Sign) (more : List Sign) → IsClear f → Takes f x g → still_to_write f (x ∷ more) ≡ still_to_write g more
takes_text f g x more clear takes =
    ap (λ l. l ++ gives writer (writing f) (x ∷ more)) (clear_owes f clear)
    ∙ ap (λ l. l ++ gives writer (write_step (writing f) x) more) (sym takes.gives)
    ∙ ap (λ s. owed_octets g ++ gives writer s more) (sym takes.state)

pub waits_text : (f g : Framer) (x : Sign) (more : List Sign) → IsClear f → Waits f x g → still_to_write f (x ∷ more) ≡ still_to_write g (x ∷ more)
waits_text f g x more clear waits =
    ap (λ l. l ++ gives writer (writing f) (x ∷ more)) (clear_owes f clear)
    ∙ ap (λ l. l ++ gives writer (write_step (writing f) x) more) (sym waits.gives)
    ∙ append_assoc (owed_octets g) (write_out (writing g) x) (gives writer (write_step (writing f) x) more)
    ∙ ap (λ s. owed_octets g ++ (write_out (writing g) x ++ gives writer s more)) (sym waits.state)

pub next_octet : (f : Framer) (piece : List ℕ) (n : ℕ) (more : List Sign) → n < length piece
    → still_to_write f (map octet (drop n piece) ++ more) ≡ still_to_write f (octet (get_or piece n 0) ∷ (map octet (drop (n + 1) piece) ++ more))
next_octet f piece n more less = ap (λ l. still_to_write f (map octet l ++ more)) (drop_more piece n 0 less)

pub rest_octets : (f : Framer) (piece : List ℕ) (n : ℕ) (more : List Sign)
    → still_to_write f (map octet (drop n piece) ++ more) ≡ still_to_write f (drop n (map octet piece) ++ more)
rest_octets f piece n more = ap (λ l. still_to_write f (l ++ more)) (sym (drop-map octet n piece))

take_len : (n : ℕ) (room b : List ℕ) → n ≤ length room → length (take n room ++ b) ≡ n + length b
take_len n room b within = length-append (take n room) b ∙ ap (λ k. k + length b) (length-take-le n room within)

-- how far what is owed moves
pub moved_len : (at made : ℕ) (room after b a : List ℕ) → at ≤ length room → made ≤ length after → take made after ++ b ≡ take at room ++ a
    → made + length b ≡ at + length a
moved_len at made room after b a within fits moved = sym (take_len made after b fits) ∙ ap length moved ∙ take_len at room a within

-- the same, as a text in front
pub poured_text : (f g : Framer) (room after : List ℕ) (at made : ℕ) (ss : List Sign) → take made after ++ owed_octets g ≡ take at room ++ owed_octets f → writing g ≡ writing f
    → take at room ++ still_to_write f ss ≡ take made after ++ still_to_write g ss
poured_text f g room after at made ss moved same = moved_text f g (take at room) (take made after) ss (sym moved) (sym same)

-- RUNS

pub copying_run : (xs : List ℕ) → AreRun copying xs
copying_run [] more = refl
copying_run (c ∷ xs) more = ap (λ l. c ∷ l) (copying_run xs more)

-- octets without an escape octet
pub free_run : (xs : List ℕ) → AllByRecursion (λ c. (c == 255) ≡ false) xs → AreRun free xs
free_run [] all more = refl
free_run (c ∷ xs) all more =
    ap (λ b. (if b then 255 ∷ 255 ∷ [] else c ∷ []) ++ gives writer free (map octet xs ++ more)) all.0 ∙ ap (λ l. c ∷ l) (free_run xs all.1 more)

-- ---- no octet and no end of record changes the manner

filled_manner : (xs : List ℕ) (n : Counting) (c : ℕ) (due full : Bool)
    → manner (if due then filling (c ∷ []) (counted_on (marked n)) else (if full then filling (c ∷ []) (counted_on n) else filling (xs ++ c ∷ []) (counted_on n))) ≡ Blocks
filled_manner xs n c true full = refl
filled_manner xs n c false true = refl
filled_manner xs n c false false = refl

pub octet_manner : (w : Writing) (c : ℕ) → manner (write_step w (octet c)) ≡ manner w
octet_manner copying c = refl
octet_manner free c = refl
octet_manner held c = refl
octet_manner (filling xs n) c = filled_manner xs n c (is_due n) (length xs == 8192)
octet_manner (at_record xs n) c = filled_manner [] n c (is_due n) (length {A = ℕ} [] == 8192)
octet_manner closed c = refl

pub record_manner : (w : Writing) → manner (write_step w end_record) ≡ manner w
record_manner copying = refl
record_manner free = refl
record_manner held = refl
record_manner (filling xs n) = refl
record_manner (at_record xs n) = refl
record_manner closed = refl

pub takes_octet : (f g : Framer) (c : ℕ) → Takes f (octet c) g → manner (writing g) ≡ manner (writing f)
takes_octet f g c takes = ap manner takes.state ∙ octet_manner (writing f) c

pub waits_octet : (f g : Framer) (c : ℕ) → Waits f (octet c) g → manner (writing g) ≡ manner (writing f)
waits_octet f g c waits = sym (octet_manner (writing g) c) ∙ ap manner waits.state ∙ octet_manner (writing f) c

pub takes_record : (f g : Framer) → Takes f end_record g → manner (writing g) ≡ manner (writing f)
takes_record f g takes = ap manner takes.state ∙ record_manner (writing f)

pub waits_record : (f g : Framer) → Waits f end_record g → manner (writing g) ≡ manner (writing f)
waits_record f g waits = sym (record_manner (writing g)) ∙ ap manner waits.state ∙ record_manner (writing f)

run_manner : (w : Writing) (xs : List ℕ) → manner (after writer w (map octet xs)) ≡ manner w
run_manner w [] = refl
run_manner w (c ∷ xs) = run_manner (write_step w (octet c)) xs ∙ octet_manner w c

pub takes_run : (f g : Framer) (xs : List ℕ) → TakesRun f xs g → manner (writing g) ≡ manner (writing f)
takes_run f g xs takes = ap manner takes.state ∙ run_manner (writing f) xs
