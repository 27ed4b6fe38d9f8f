-- A world in which nothing moves that takes no memory is quiet, or a queue of it is blocked.
use Rattle.std.proofs.Common.{◌≡◌, ◌⊎◌, inl, inr, ℕ, suc, ◌≤◌, Bool, true, false, List, [], ◌∷◌, not, ◌&&◌, ◌||◌, length, refl, sym, ap, ◌∙◌, arith}
use Rattle.std.specs.Prelude.{◌==◌, nat_lt}
use Rattle.std.proofs.lemmas.Bool.Decides.{eqb_tells, leb_tells}
use Rattle.std.proofs.lemmas.Bool.{le-leb}
use Rattle.ftp_ends.specs.Octets.{has_octets}
use Rattle.laws_world.specs.Events.{Queue, ControlToServer, ControlToClient, DataToServer, DataToClient, Deliver, IsQuiet, can_happen, can_move, can_take, due, in_queue, may_take}
use Rattle.laws_world.specs.Still.{IsStill, IsBlocked, StillIsQuiet, BlockedIsNotQuiet, QuietIsStill, RestingIsStill}
use Rattle.laws_world.specs.World.{World}

-- ---- tests

-- neither of two
neither : (a b : Bool) → (a || b) ≡ false → (a ≡ false) × (b ≡ false)
neither false b is = (refl, is)
neither true b is = absurd (cc)

-- a test is not both
never : (b : Bool) → b ≡ true → b ≡ false → ⊥
never b is isnt = absurd (let e : true ≡ false = sym is ∙ isnt in cc)

-- where nothing is due nothing moves
none_moves : (owes room : Bool) → owes ≡ false → (owes && room) ≡ false
none_moves false room is = refl
none_moves true room is = absurd (cc)

-- where none may be taken none is, whatever the count
takes_none : (some has may : Bool) → (has && may) ≡ false → (some && has && may) ≡ false
takes_none true has may is = is
takes_none false has may is = refl

-- where an octet is due and none of a queue's room moves one, the queue is full
full_by : (owes : Bool) (long : ℕ) → owes ≡ true → (owes && (false || nat_lt long 4096)) ≡ false → 4096 ≤ long
full_by true long is none = elim (leb_tells (suc long) 4096) [ inl less ↦ absurd (never (nat_lt long 4096) less.0 none) | inr more ↦ omega (arith, more.1) ]
full_by false long is none = absurd (cc)

-- an octet stands first in a queue that has one
some_octet : (octets : List ℕ) → 1 ≤ length octets → has_octets octets ≡ true
some_octet [] long = absurd (omega (arith, long))
some_octet (octet ∷ octets) long = refl

-- of a queue that has octets none is taken as its receiver may not
refused_by : (has may : Bool) → has ≡ true → (has && may) ≡ false → may ≡ false
refused_by true may some none = none
refused_by false may some none = absurd (cc)

-- ---- one queue

module _ (w : World) (still : IsStill w) (queue : Queue) where
  -- nothing is taken of it, whatever the count
  none_taken : (count : ℕ) → can_take queue count w ≡ false
  none_taken count =
      takes_none (not (count == 0)) (has_octets (in_queue queue w)) (may_take queue w)
      (neither (can_move queue 1 w) (can_take queue 1 w) (still.moved queue 1 (omega arith) (omega arith))).1

  -- where nothing is due nothing moves
  moves_none : has_octets (due queue w) ≡ false → (count : ℕ) → can_happen (Deliver queue count) w ≡ false
  moves_none none count =
      ap (λ b. b || can_take queue count w) (none_moves (has_octets (due queue w)) ((count == 0) || nat_lt (length (in_queue queue w)) count) none)
      ∙ none_taken count

  -- where more is due it is full, and refused
  blocks : has_octets (due queue w) ≡ true → IsBlocked queue w
  blocks owes =
      let full = full_by (has_octets (due queue w)) (length (in_queue queue w)) owes
      (neither (can_move queue 4096 w) (can_take queue 4096 w) (still.moved queue 4096 (omega arith) (omega arith))).0 in
      record {
        full = full;
        refused = refused_by (has_octets (in_queue queue w)) (may_take queue w) (some_octet (in_queue queue w) (omega (arith, full))) (none_taken 1);
        owes = owes;
      }

  -- so it rests, or is blocked
  one_queue : ((count : ℕ) → can_happen (Deliver queue count) w ≡ false) ⊎ IsBlocked queue w
  one_queue = elim (has_octets (due queue w)) as (λ b. has_octets (due queue w) ≡ b → ((count : ℕ) → can_happen (Deliver queue count) w ≡ false) ⊎ IsBlocked queue w) [
    | true ↦ λ owes. inr (blocks owes)
    | false ↦ λ none. inl (moves_none none)
  ] refl

-- ---- the laws

-- no delivery moves an octet of a queue, whatever the count
abbrev Rests : World → Queue → Type 0
Rests w queue = (count : ℕ) → can_happen (Deliver queue count) w ≡ false

-- all four rest, or one is blocked
pub still_is_quiet : StillIsQuiet
still_is_quiet w still = by (one_queue w still ControlToServer) (one_queue w still ControlToClient) (one_queue w still DataToServer) (one_queue w still DataToClient)
  where
    by : Rests w ControlToServer ⊎ IsBlocked ControlToServer w → Rests w ControlToClient ⊎ IsBlocked ControlToClient w
        → Rests w DataToServer ⊎ IsBlocked DataToServer w → Rests w DataToClient ⊎ IsBlocked DataToClient w
        → IsQuiet w ⊎ ((queue : Queue) × IsBlocked queue w)
    by (inr blocked) b c d = inr (ControlToServer, blocked)
    by (inl one) (inr blocked) c d = inr (ControlToClient, blocked)
    by (inl one) (inl two) (inr blocked) d = inr (DataToServer, blocked)
    by (inl one) (inl two) (inl three) (inr blocked) = inr (DataToClient, blocked)
    by (inl one) (inl two) (inl three) (inl four) = inl (record { moved = all; opened = still.opened; ended = still.ended })
      where
        all : (queue : Queue) → Rests w queue
        all ControlToServer = one
        all ControlToClient = two
        all DataToServer = three
        all DataToClient = four

-- a delivery of none moves what a blocked queue is due
pub blocked_is_not_quiet : BlockedIsNotQuiet
blocked_is_not_quiet w queue blocked quiet = never (has_octets (due queue w) && true) (ap (λ b. b && true) blocked.owes) (neither (can_move queue 0 w) (can_take queue 0 w) (quiet.moved queue 0)).0

-- what holds of every count holds of few
pub quiet_is_still : QuietIsStill
quiet_is_still w quiet = record { moved = λ queue count some few. quiet.moved queue count; opened = quiet.opened; ended = quiet.ended }

-- some octets are not none
some_count : (count : ℕ) → 1 ≤ count → (count == 0) ≡ false
some_count count some = elim (eqb_tells count 0) [ inl is ↦ absurd (omega (arith, some, is.1)) | inr isnt ↦ isnt.0 ]

-- what no room of a queue moves, less of it doesn't
fewer_move : (owes : Bool) (long count : ℕ) → 1 ≤ count → count ≤ 4096 → (owes && nat_lt long 4096) ≡ false → (owes && ((count == 0) || nat_lt long count)) ≡ false
fewer_move false long count some few none = refl
fewer_move true long count some few none =
    ap (λ b. b || nat_lt long count) (some_count count some)
    ∙ elim (leb_tells (suc long) count) [
      | inl less ↦ absurd (never (nat_lt long 4096) (le-leb (suc long) 4096 (omega (arith, less.1, few))) none)
      | inr more ↦ more.0
    ]

-- so a loop can test it
pub resting_is_still : RestingIsStill
resting_is_still w rests closed told = record { moved = moves_none; opened = closed; ended = told }
  where
    moves_none : (queue : Queue) (count : ℕ) → 1 ≤ count → count ≤ 4096 → can_happen (Deliver queue count) w ≡ false
    moves_none queue count some few =
        ap (λ b. b || can_take queue count w) (fewer_move (has_octets (due queue w)) (length (in_queue queue w)) count some few (rests queue).moved)
        ∙ takes_none (not (count == 0)) (has_octets (in_queue queue w)) (may_take queue w) (rests queue).taken
