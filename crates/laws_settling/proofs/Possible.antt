-- When a delivery is possible, and that what a world lends is of no matter.
use Rattle.std.proofs.Common.{◌≡◌, ℕ, ◌<◌, List, [], ◌∷◌, length, Bool, true, false, ◌&&◌, ◌||◌, refl, arith}
use Rattle.std.specs.Prelude.{not}
use Rattle.std.proofs.lemmas.Bool.{and_parts}
use Rattle.ftp_ends.specs.Octets.{has_octets}
use Rattle.laws_world.specs.Events.{Queue, ControlToServer, Event, Deliver, End, can_happen, due, in_queue, lends_none, may_take}
use Rattle.laws_world.specs.World.{World}

-- some octets are there
pub some_octets : (octets : List ℕ) → has_octets octets ≡ true → 0 < length octets
some_octets [] is = absurd (cc)
some_octets (octet ∷ octets) is = omega arith

-- ---- the test of a delivery: octets are due, and fewer are on their way than are offered; none are offered; octets are on their way, and may be taken

-- what is due moves
pub moves_can : (owing short empty there may : Bool) → owing ≡ true → empty ≡ true → ((owing && (empty || short)) || (not empty && there && may)) ≡ true
moves_can true short true there may is none = refl
moves_can owing short empty there may is none = absurd (cc)

-- what is on its way is taken
pub takes_can : (owing short there may : Bool) → there ≡ true → may ≡ true → ((owing && (false || short)) || (not false && there && may)) ≡ true
takes_can true true there may is also = refl
takes_can true false true true is also = refl
takes_can false short true true is also = refl
takes_can owing short there may is also = absurd (cc)

-- where nothing moves, what is on its way is taken
pub taken_can : (owing short empty there may : Bool) → empty ≡ false → (owing && short) ≡ false → ((owing && (empty || short)) || (not empty && there && may)) ≡ true → (there ≡ true) × (may ≡ true)
taken_can true false false there may is nothing can = and_parts there may can
taken_can false short false there may is nothing can = and_parts there may can
taken_can owing short empty there may is nothing can = absurd (cc)

-- where nothing is due and nothing may be taken, none is possible
pub still : (owing short empty there may : Bool) → owing ≡ false → (there && may) ≡ false → ((owing && (empty || short)) || (not empty && there && may)) ≡ false
still false short true there may none nothing = refl
still false short false there may none nothing = nothing
still true short empty there may none nothing = absurd (cc)

-- a test whose first part fails
pub and_none : (b c : Bool) → b ≡ false → (b && c) ≡ false
and_none false c is = refl
and_none true c is = absurd (cc)

-- ---- what is lent

-- what is due is as it was
pub lent_due : (queue : Queue) (w : World) → due queue (lends_none w) ≡ due queue w
lent_due ControlToServer w = refl
lent_due queue w = refl

-- what is on its way is as it was
pub lent_queue : (queue : Queue) (w : World) → in_queue queue (lends_none w) ≡ in_queue queue w
lent_queue ControlToServer w = refl
lent_queue queue w = refl

-- what may be taken is as it was
pub lent_may : (queue : Queue) (w : World) → may_take queue (lends_none w) ≡ may_take queue w
lent_may ControlToServer w = refl
lent_may queue w = refl

-- what is possible is as it was
pub lent_can : (event : Event) (w : World) → can_happen event w ≡ true → can_happen event (lends_none w) ≡ true
lent_can (Deliver ControlToServer count) w can = can
lent_can (End ControlToServer) w can = can
lent_can other w can = can
