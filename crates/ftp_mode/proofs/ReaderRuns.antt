-- The reader over runs of octets.
use Rattle.std.proofs.Common.{◌≡◌, ℕ, ◌-◌, ◌<◌, List, [], ◌∷◌, ◌++◌, length, true, false, ◌==◌, refl, ap, sym, ◌∙◌, arith, append-nil}
use Rattle.std.specs.List.{AllByRecursion}
use Rattle.std.proofs.lemmas.Bool.{ne_eqb}
use Rattle.ftp_pieces.specs.Machine.{after, gives}
use Rattle.ftp_repr.specs.Signs.{octet}
use Rattle.ftp_mode.specs.declared.fault.FrameFault.{FrameFault}
use Rattle.ftp_mode.specs.Said.{says, octets_said}
use Rattle.ftp_mode.specs.Block.{ends_of}
use Rattle.ftp_mode.specs.Count.{count_on, next}
use Rattle.ftp_mode.specs.Reading.{going, failed, Place, plain, outside, inside, ended, after_block, place_step, place_out, reader}

count_next : (n c d : ℕ) (w : List ℕ) → count_on (next n) (length (d ∷ w)) ≡ count_on n (length (c ∷ d ∷ w))
count_next n c d w = omega arith

-- an octet that keeps the place and is data
abbrev pub Runs : Place → ℕ → Type 0
Runs at c = ((n : ℕ) → place_step n at c ≡ going (next n) at) × (place_out at c ≡ says (octet c) ∷ [])

pub run_after : (at : Place) (n c : ℕ) (w : List ℕ) → AllByRecursion (Runs at) (c ∷ w) → after reader (going n at) (c ∷ w) ≡ going (count_on n (length (c ∷ w))) at
run_after at n c [] all = all.0.0 n
run_after at n c (d ∷ w) all =
    ap (λ s. after reader s (d ∷ w)) (all.0.0 n) ∙ run_after at (next n) d w all.1 ∙ ap (λ k. going k at) (count_next n c d w)

pub run_gives : (at : Place) (n : ℕ) (w : List ℕ) → AllByRecursion (Runs at) w → gives reader (going n at) w ≡ octets_said w
run_gives at n [] all = refl
run_gives at n (c ∷ w) all =
    ap (λ l. l ++ gives reader (place_step n at c) w) all.0.1
    ∙ ap (λ s. says (octet c) ∷ gives reader s w) (all.0.0 n)
    ∙ ap (λ l. says (octet c) ∷ l) (run_gives at (next n) w all.1)

pub plain_runs : (w : List ℕ) → AllByRecursion (Runs plain) w
plain_runs [] = tt
plain_runs (c ∷ w) = ((λ n. refl, refl), plain_runs w)

-- octets without an escape octet
pub outside_runs : (w : List ℕ) → AllByRecursion (λ c. (c == 255) ≡ false) w → AllByRecursion (Runs outside) w
outside_runs [] all = tt
outside_runs (c ∷ w) all = ((let e : (c == 255) ≡ false = all.0 in (λ n. rw e refl, rw e refl)), outside_runs w all.1)

-- behind the end
pub ended_after : (n c : ℕ) (w : List ℕ) → after reader (going n ended) (c ∷ w) ≡ going (count_on n (length (c ∷ w))) ended
ended_after n c [] = refl
ended_after n c (d ∷ w) = ended_after (next n) d w ∙ ap (λ k. going k ended) (count_next n c d w)

pub ended_gives : (n : ℕ) (w : List ℕ) → gives reader (going n ended) w ≡ []
ended_gives n [] = refl
ended_gives n (c ∷ w) = ended_gives (next n) w

-- after a fault
pub failed_after : (fault : FrameFault) (w : List ℕ) → after reader (failed fault) w ≡ failed fault
failed_after fault [] = refl
failed_after fault (c ∷ w) = failed_after fault w

pub failed_gives : (fault : FrameFault) (w : List ℕ) → gives reader (failed fault) w ≡ []
failed_gives fault [] = refl
failed_gives fault (c ∷ w) = failed_gives fault w

-- data of a block that does not end it
pub short_after : (n d left c : ℕ) (w : List ℕ) → length (c ∷ w) < left
    → after reader (going n (inside d left)) (c ∷ w) ≡ going (count_on n (length (c ∷ w))) (inside d (left - length (c ∷ w)))
short_after n d left c [] short = let e : (left == 1) ≡ false = ne_eqb left 1 (λ q. omega arith) in rw e refl
short_after n d left c (x ∷ w) short =
    let e : (left == 1) ≡ false = ne_eqb left 1 (λ q. omega arith) in
    let rest : left - 1 - length (x ∷ w) ≡ left - length (c ∷ x ∷ w) = omega arith in
    rw e (short_after (next n) d (left - 1) x w (omega arith) ∙ ap (λ k. going k (inside d (left - 1 - length (x ∷ w)))) (count_next n c x w)
    ∙ ap (λ k. going (count_on n (length (c ∷ x ∷ w))) (inside d k)) rest)

pub short_gives : (n d left : ℕ) (w : List ℕ) → length w < left → gives reader (going n (inside d left)) w ≡ octets_said w
short_gives n d left [] short = refl
short_gives n d left (c ∷ w) short =
    let e : (left == 1) ≡ false = ne_eqb left 1 (λ q. omega arith) in
    rw e (ap (λ l. says (octet c) ∷ l) (short_gives (next n) d (left - 1) w (omega arith)))

-- data of a block up to its end
pub full_after : (n d left c : ℕ) (w : List ℕ) → length (c ∷ w) ≡ left
    → after reader (going n (inside d left)) (c ∷ w) ≡ going (count_on n (length (c ∷ w))) (after_block d)
full_after n d left c [] full = let e : (left == 1) ≡ true = rw (sym full) refl in rw e refl
full_after n d left c (x ∷ w) full =
    let e : (left == 1) ≡ false = ne_eqb left 1 (λ q. omega arith) in
    rw e (full_after (next n) d (left - 1) x w (omega arith) ∙ ap (λ k. going k (after_block d)) (count_next n c x w))

pub full_gives : (n d left c : ℕ) (w : List ℕ) → length (c ∷ w) ≡ left
    → gives reader (going n (inside d left)) (c ∷ w) ≡ octets_said (c ∷ w) ++ ends_of d
full_gives n d left c [] full = let e : (left == 1) ≡ true = rw (sym full) refl in rw e (ap (λ l. says (octet c) ∷ l) (append-nil (ends_of d)))
full_gives n d left c (x ∷ w) full =
    let e : (left == 1) ≡ false = ne_eqb left 1 (λ q. omega arith) in
    rw e (ap (λ l. says (octet c) ∷ l) (full_gives (next n) d (left - 1) x w (omega arith)))
