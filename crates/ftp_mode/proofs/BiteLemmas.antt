-- What a deframer takes in one go.
use Rattle.std.proofs.Common.{◌≡◌, ℕ, ◌+◌, ◌-◌, ◌<◌, ◌≤◌, List, [], ◌∷◌, ◌++◌, length, take, drop, get_or, false, ◌==◌, refl, ap, sym, subst, ◌∙◌, arith, inl, inr, ◌⊎◌, append-nil, length-append, length-drop, length-take, zero, suc}
use Rattle.std.specs.List.{AllByRecursion}
use Rattle.std.proofs.Math.Seq.{take-add}
use Rattle.std.proofs.lemmas.List.{take-map, take-take, length-take-le, length-map}
use Rattle.ftp_pieces.specs.Machine.{after, gives}
use Rattle.ftp_pieces.proofs.MachineLemmas.{after-append, gives-append}
use Rattle.ftp_mode.specs.declared.deframer.Deframer.{Deframer}
use Rattle.ftp_mode.specs.declared.deframer.Bite.{Bite}
use Rattle.ftp_mode.specs.declared.step.Part.{Part}
use Rattle.ftp_mode.specs.declared.fault.FrameFault.{FrameFault}
use Rattle.ftp_mode.specs.declared.deframer.State.{State}
use Rattle.ftp_mode.specs.declared.deframer.State.TheVariants.{Plain, Outside, Inside, Ended}
use Rattle.ftp_mode.specs.Said.{Said, says, octets_said}
use Rattle.ftp_repr.specs.Signs.{octet}
use Rattle.ftp_mode.specs.Block.{ends_of}
use Rattle.ftp_mode.specs.Count.{count_on}
use Rattle.ftp_mode.specs.Reading.{Reading, IsGoing, going, Place, plain, outside, inside, after_block, reader}
use Rattle.ftp_mode.specs.Deframing.{reading_of, reading, owed, last_marker, gave_said, part_said, MovesReading, Bites, Refuses, Fails, Hears, SaysLast}
use Rattle.ftp_mode.proofs.ReaderRuns.{run_after, run_gives, plain_runs, outside_runs, ended_after, ended_gives, short_after, short_gives, full_after, full_gives}

pub plain_moves : (s t : State) (n m : ℕ) (a b w : List ℕ) → 0 < length w → s ≡ Plain → t ≡ s → m ≡ count_on n (length w)
    → MovesReading (reading_of s n a) (reading_of t m b) w (octets_said w)
plain_moves s t n m a b [] some is same place = absurd (omega arith)
plain_moves s t n m a b (c ∷ w) some is same place = record {
  state = rw (same, is, place) (sym (run_after plain n c w (plain_runs (c ∷ w))));
  says = rw is (sym (run_gives plain n (c ∷ w) (plain_runs (c ∷ w))));
}

pub outside_moves : (s t : State) (n m : ℕ) (a b w : List ℕ) → 0 < length w → s ≡ Outside → t ≡ s → m ≡ count_on n (length w)
    → AllByRecursion (λ c. (c == 255) ≡ false) w → MovesReading (reading_of s n a) (reading_of t m b) w (octets_said w)
outside_moves s t n m a b [] some is same place all = absurd (omega arith)
outside_moves s t n m a b (c ∷ w) some is same place all = record {
  state = rw (same, is, place) (sym (run_after outside n c w (outside_runs (c ∷ w) all)));
  says = rw is (sym (run_gives outside n (c ∷ w) (outside_runs (c ∷ w) all)));
}

pub ended_moves : (s t : State) (n m : ℕ) (a b w : List ℕ) → 0 < length w → s ≡ Ended → t ≡ s → m ≡ count_on n (length w)
    → MovesReading (reading_of s n a) (reading_of t m b) w []
ended_moves s t n m a b [] some is same place = absurd (omega arith)
ended_moves s t n m a b (c ∷ w) some is same place = record {
  state = rw (same, is, place) (sym (ended_after n c w));
  says = rw is (sym (ended_gives n (c ∷ w)));
}

pub short_moves : (s : State) (n m d more rest : ℕ) (a b w : List ℕ) → 0 < length w → s ≡ Inside d more → length w < more + 1
    → rest ≡ more + 1 - length w - 1 → m ≡ count_on n (length w)
    → MovesReading (reading_of s n a) (reading_of (Inside d rest) m b) w (octets_said w)
short_moves s n m d more rest a b [] some is short left place = absurd (omega arith)
short_moves s n m d more rest a b (c ∷ w) some is short left place = record {
  state = let e : rest + 1 ≡ more + 1 - length (c ∷ w) = omega arith in
      rw (is, place) (ap (λ k. going (count_on n (length (c ∷ w))) (inside d k)) e ∙ sym (short_after n d (more + 1) c w short));
  says = rw is (sym (short_gives n d (more + 1) (c ∷ w) short));
}

pub full_moves : (s : State) (now : Reading) (n m d more : ℕ) (a w : List ℕ) → s ≡ Inside d more → length w ≡ more + 1
    → now ≡ going m (after_block d) → m ≡ count_on n (length w)
    → MovesReading (reading_of s n a) now w (octets_said w ++ ends_of d)
full_moves s now n m d more a [] is full at place = absurd (omega arith)
full_moves s now n m d more a (c ∷ w) is full at place = record {
  state = at ∙ ap (λ k. going k (after_block d)) place ∙ rw is (sym (full_after n d (more + 1) c w full));
  says = rw is (sym (full_gives n d (more + 1) c w full));
}

-- a front of a run
pub inside_gives : (s : State) (n d more : ℕ) (a piece : List ℕ) (i : ℕ) → s ≡ Inside d more → i ≤ more
    → gives reader (reading_of s n a) (take i piece) ≡ octets_said (take i piece)
inside_gives s n d more a piece i is few =
    let short : length (take i piece) < more + 1 = omega (arith, few, length-take i piece) in
    ap (λ t. gives reader (reading_of t n a) (take i piece)) is ∙ short_gives n d (more + 1) (take i piece) short

all_front : (P : ℕ → Type 0) (i : ℕ) (w : List ℕ) → AllByRecursion P w → AllByRecursion P (take i w)
all_front P zero w all = tt
all_front P (suc i) [] all = tt
all_front P (suc i) (c ∷ w) all = (all.0, all_front P i w all.1)

pub outside_gives : (s : State) (n : ℕ) (a piece : List ℕ) (run i : ℕ) → s ≡ Outside → i < run → AllByRecursion (λ c. (c == 255) ≡ false) (take run piece)
    → gives reader (reading_of s n a) (take i piece) ≡ octets_said (take i piece)
outside_gives s n a piece run i is few all =
    let P : ℕ → Type 0 = λ c. (c == 255) ≡ false in
    let front : AllByRecursion P (take i piece) = subst (AllByRecursion P) (take-take i run piece (omega (arith, few))) (all_front P i (take run piece) all) in
    ap (λ t. gives reader (reading_of t n a) (take i piece)) is ∙ run_gives outside n (take i piece) (outside_runs (take i piece) front)

-- octets behind others
pub moves_more : (a b c : Reading) (xs ys : List ℕ) (said : List Said) → MovesReading a b xs [] → MovesReading b c ys said → MovesReading a c (xs ++ ys) said
moves_more a b c xs ys said first then = record {
  state = then.state ∙ ap (λ s. after reader s ys) first.state ∙ sym (after-append reader a xs ys);
  says = then.says ∙ ap (λ s. gives reader s ys) first.state ∙ ap (λ l. l ++ gives reader (after reader a xs) ys) first.says ∙ sym (gives-append reader a xs ys);
}

pub moves_take : (a b c : Reading) (piece : List ℕ) (at n : ℕ) (said : List Said) → MovesReading a b (take at piece) [] → MovesReading b c (take n (drop at piece)) said
    → MovesReading a c (take (at + n) piece) said
moves_take a b c piece at n said first then =
    let P : List ℕ → Type 0 = λ l. MovesReading a c l said in
    subst P (sym (take-add at n piece)) (moves_more a b c (take at piece) (take n (drop at piece)) said first then)

pub same_going : (r s : Reading) → s ≡ r → IsGoing r → IsGoing s
same_going r s e h = let P : Reading → Type 0 = λ x. IsGoing x in subst P (sym e) h

first_one : (piece : List ℕ) → 0 < length piece → take 1 piece ≡ get_or piece 0 0 ∷ []
first_one [] some = absurd (omega arith)
first_one (c ∷ piece) some = refl

pub refused_at : (old mid new : Deframer) (piece : List ℕ) (at : ℕ) (fault : FrameFault) → at < length piece → owed old ≡ [] → owed mid ≡ []
    → MovesReading (reading old) (reading mid) (take at piece) [] → IsGoing (reading mid) → Refuses mid (get_or (drop at piece) 0 0) fault new
    → Fails old piece (at + 1) fault (record new { with_fault = at + 1 })
refused_at old mid new piece at fault less owes owed_mid moves fine refuses =
    let one : MovesReading (reading mid) (reading new) (take 1 (drop at piece)) [] =
    (let P : List ℕ → Type 0 = λ l. MovesReading (reading mid) (reading new) l [] in
    subst P (sym (first_one (drop at piece) (omega (arith, length-drop at piece)))) (record { state = refuses.state; says = sym (append-nil _ ∙ refuses.quiet) })) in
    let all = moves_take (reading old) (reading mid) (reading new) piece at 1 [] moves one in
    let before : at + 1 - 1 ≡ at = omega arith in
    record {
      within = omega arith;
      state = all.state;
      fails = refuses.fails;
      first = λ some. same_going (reading mid) (after reader (reading old) (take (at + 1 - 1) piece)) (ap (λ n. after reader (reading old) (take n piece)) before ∙ sym moves.state) fine;
      quiet = ap (λ l. l ++ gives reader (reading old) (take (at + 1) piece)) owes ∙ sym all.says;
      owes = refuses.owes ∙ owed_mid;
    }

-- ---- which octets say what

-- each octet of a run says itself
pub run_last : (from : Reading) (piece : List ℕ) (n : ℕ) → n ≤ length piece
    → ((i : ℕ) → i < n → gives reader from (take i piece) ≡ octets_said (take i piece)) → SaysLast from piece n (octets_said (take n piece))
run_last from piece n within runs =
    let len : length (octets_said (take n piece)) ≡ n = length-map (take n piece) (λ c. says (octet c)) ∙ length-take-le n piece within in
    record {
      fits = omega (arith, len);
      each = λ i less.
          let at : n - length (octets_said (take n piece)) + i ≡ i = omega (arith, len) in
          let few : i < n = omega (arith, len, less) in
          ap (λ k. gives reader from (take k piece)) at ∙ runs i few
          ∙ sym (take-map _ i (take n piece) ∙ ap octets_said (take-take i n piece (omega (arith, few))));
    }

-- one octet says one thing, or nothing
pub one_last : (from : Reading) (piece : List ℕ) (n : ℕ) (said : List Said) → n ≡ 1 → length said ≤ 1 → SaysLast from piece n said
one_last from piece n said one few = record {
  fits = omega (arith, one, few);
  each = λ i less.
      let none : i ≡ 0 = omega (arith, few, less) in
      let at : n - length said + i ≡ 0 = omega (arith, one, few, less) in
      ap (λ k. gives reader from (take k piece)) at ∙ ap (λ k. take k said) (sym none);
}

-- nothing was said
pub none_last : (from : Reading) (piece : List ℕ) (n : ℕ) → SaysLast from piece n []
none_last from piece n = record { fits = omega arith; each = λ i less. absurd (omega (arith, less)) }

-- behind octets that say nothing
pub last_more : (a b : Reading) (piece : List ℕ) (at n : ℕ) (said : List Said) → MovesReading a b (take at piece) [] → SaysLast b (drop at piece) n said
    → SaysLast a piece (at + n) said
last_more a b piece at n said first then = record {
  fits = omega (arith, then.fits);
  each = λ i less.
      let m = n - length said + i in
      let place : at + n - length said + i ≡ at + m = omega (arith, then.fits) in
      let front = take at piece in
      let rest = take m (drop at piece) in
      ap (λ k. gives reader a (take k piece)) place ∙ ap (gives reader a) (take-add at m piece) ∙ gives-append reader a front rest
      ∙ ap (λ l. l ++ gives reader (after reader a front) rest) (sym first.says)
      ∙ ap (λ r. gives reader r rest) (sym first.state) ∙ then.each i less;
}

pub next_last : (old mid new : Deframer) (piece rest : List ℕ) (at : ℕ) (bite : Bite) → rest ≡ drop at piece → MovesReading (reading old) (reading mid) (take at piece) []
    → Bites mid rest bite new → SaysLast (reading old) piece (at + bite.taken) (gave_said bite.gave (take bite.taken rest) (last_marker new))
next_last old mid new piece rest at bite cut first bites =
    let P : List ℕ → Type 0 = λ l. SaysLast (reading mid) l bite.taken (gave_said bite.gave (take bite.taken rest) (last_marker new)) in
    last_more (reading old) (reading mid) piece at bite.taken (gave_said bite.gave (take bite.taken rest) (last_marker new)) first (subst P cut bites.by_last)

-- a bite behind octets that gave nothing
pub next_bite : (old mid new : Deframer) (piece rest : List ℕ) (at : ℕ) (bite : Bite) → rest ≡ drop at piece → MovesReading (reading old) (reading mid) (take at piece) []
    → Bites mid rest bite new
    → MovesReading (reading old) (reading new) (take (at + bite.taken) piece) (gave_said bite.gave (take bite.taken rest) (last_marker new) ++ owed new)
next_bite old mid new piece rest at bite cut first bites =
    let P : List ℕ → Type 0 = λ l. MovesReading (reading mid) (reading new) (take bite.taken l) (gave_said bite.gave (take bite.taken rest) (last_marker new) ++ owed new) in
    moves_take (reading old) (reading mid) (reading new) piece at bite.taken (gave_said bite.gave (take bite.taken rest) (last_marker new) ++ owed new) first (subst P cut bites.moves)

pub next_within : (mid new : Deframer) (piece rest : List ℕ) (at : ℕ) (bite : Bite) → rest ≡ drop at piece → at < length piece
    → Bites mid rest bite new → at + bite.taken ≤ length piece
next_within mid new piece rest at bite cut less bites =
    omega (arith, bites.within, ap length cut, length-drop at piece)

-- the part that ends a call
pub heard : (old new : Deframer) (piece : List ℕ) (n : ℕ) (part : Part) (said : List Said) → n ≤ length piece → owed old ≡ []
    → MovesReading (reading old) (reading new) (take n piece) said → part_said part (last_marker new) ++ owed new ≡ said
    → 0 < length (part_said part (last_marker new)) → SaysLast (reading old) piece n (part_said part (last_marker new)) → IsGoing (reading new)
    → Hears old piece (record { taken = n; part = part }) new
heard old new piece n part said within none moves gave some last fine = record {
  within = within;
  state = moves.state;
  says = gave ∙ moves.says ∙ ap (λ l. l ++ gives reader (reading old) (take n piece)) (sym none);
  some = inl some;
  by_last = inr last;
  fine = λ e. fine;
}

pub said_some : (xs : List ℕ) → 0 < length xs → 0 < length (octets_said xs)
said_some [] some = absurd (omega arith)
said_some (c ∷ xs) some = omega arith

-- a reader at these places has not failed
pub going_by : (s t : State) (n : ℕ) (text : List ℕ) → (s ≡ Outside) ⊎ (s ≡ Plain) ⊎ (s ≡ Ended) → t ≡ s → IsGoing (reading_of t n text)
going_by s t n text is same =
    let P : State → Type 0 = λ x. IsGoing (reading_of x n text) in
    elim is [
      | inl e ↦ subst P (sym (same ∙ e)) tt
      | inr f ↦ elim f [ inl e ↦ subst P (sym (same ∙ e)) tt | inr e ↦ subst P (sym (same ∙ e)) tt ]
    ]

pub closed_going : (r : Reading) (n : ℕ) (p : Place) → r ≡ going n p → IsGoing r
closed_going r n p e = let P : Reading → Type 0 = λ x. IsGoing x in subst P (sym e) tt

pub owes_some : (a b c : List Said) → a ++ b ≡ c → 0 < length a → c ≡ [] → ⊥
owes_some a b c e some none = omega (arith, some, ap length (e ∙ none), length-append a b)
