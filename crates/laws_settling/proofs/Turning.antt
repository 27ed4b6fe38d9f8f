-- Each turn as one of finitely many: a kind of turn, and how many octets it moves or takes.
use Rattle.std.proofs.Common.{◌≡◌, ℕ, ◌+◌, ◌-◌, ◌≤◌, ◌==◌, List, [], ◌∷◌, length, Bool, true, false, refl, arith}
use Rattle.ftp_client_model.specs.Calls as near
use Rattle.ftp_server_model.specs.Calls as far
use Rattle.ftp_server_model.specs.Machine.{Reading}
use Rattle.laws_world.specs.Claims.{IsSettling}
use Rattle.laws_world.specs.Events.{Queue, ControlToServer, ControlToClient, DataToServer, DataToClient, Event, Deliver, Open, End, DeliversBy, Fills, Happens, due, filled, in_queue, lends_none, link_opens, pulled, pushed, taking, told}
use Rattle.laws_world.specs.Serving.{after_event}
use Rattle.laws_world.specs.Still.{queue_room}
use Rattle.laws_world.specs.World.{World}
use Rattle.laws_settling.specs.Turns.{IsTurn}
use Rattle.laws_settling.proofs.Moving.{few_taken, gives_few}

-- a delivery of none; one for which calls of the sender gave so many octets each; an opening; an end
pub data Turn : Type 0 where
  Moves : (queue : Queue) → Turn
  Offers : (queue : Queue) → (counts : List ℕ) → Turn
  Opens : Turn
  Tells : (queue : Queue) → Turn

-- what it leads to, where it moves or takes so many octets
abbrev pub turned : Reading → Turn → ℕ → World → World
turned read (Moves queue) count w = after_event (pulled queue (lends_none w) count)
turned read (Offers queue counts) count w = after_event (pushed read queue count (taking queue count (filled queue (lends_none w) counts)))
turned read Opens count w = after_event (link_opens (lends_none w))
turned read (Tells queue) count w = after_event (told queue (lends_none w))

-- how many octets a turn offers at most
abbrev pub most : Queue → World → ℕ
most queue w = queue_room + length (in_queue queue w)

-- none of some numbers is greater
abbrev pub AreFew : ℕ → List ℕ → Type 0
AreFew bound [] = Unit {0}
AreFew bound (count ∷ counts) = (count ≤ bound) × AreFew bound counts

-- so there are finitely many
abbrev pub IsFew : Turn → ℕ → World → Type 0
IsFew (Moves queue) count w = count ≤ queue_room
IsFew (Offers queue counts) count w = (count ≤ most queue w) × (length counts ≤ most queue w) × AreFew (most queue w) counts
IsFew other count w = count ≡ 0

-- a world that a turn leads to
pub record IsTurned (read : Reading) (w next : World) : Type 0 where
  pub turn : Turn
  pub count : ℕ
  pub few : IsFew turn count w
  pub is : next ≡ turned read turn count w

-- ---- a queue that is filled

-- a call puts what it gives into the queue
longer : (queue : Queue) (w : World) (count : ℕ) → count ≤ length (due queue w) → length (in_queue queue (pulled queue w count)) ≡ length (in_queue queue w) + count
longer ControlToServer w count few = few_taken w.control_to_server w.near.owed count few
longer ControlToClient w count few = few_taken w.control_to_client w.far.owed count few
longer DataToServer w count few = few_taken w.data_to_server (near.to_give w.near) count few
longer DataToClient w count few = few_taken w.data_to_client (far.to_give w.far) count few

-- so there are no more calls than octets that it lacks
few_calls : (queue : Queue) (count : ℕ) (w : World) (counts : List ℕ) → Fills queue count w counts → length counts ≤ count - length (in_queue queue w)
few_calls queue count w [] fills = omega arith
few_calls queue count w (gave ∷ counts) fills =
    let more = few_calls queue count (pulled queue w gave) counts fills.2 in
    let long = longer queue w gave (gives_few (count - length (in_queue queue w)) (due queue w) gave fills.0) in
    omega (arith, more, long, fills.0.within, fills.1)

-- nor does a call give more
few_each : (queue : Queue) (count bound : ℕ) (w : World) (counts : List ℕ) → count ≤ bound → Fills queue count w counts → AreFew bound counts
few_each queue count bound w [] few fills = tt
few_each queue count bound w (gave ∷ counts) few fills = (omega (arith, few, fills.0.within), few_each queue count bound (pulled queue w gave) counts few fills.2)

-- ---- each turn

-- a delivery
delivery_so : (read : Reading) (queue : Queue) (count : ℕ) (none : Bool) (w next : World) → (count == 0) ≡ none → count ≤ most queue w
    → DeliversBy none read queue count (lends_none w) next → IsTurned read w next
delivery_so read queue count true w next is few m = record { turn = Moves queue; count = m.gave; few = omega (arith, m.gives.within); is = m.is }
delivery_so read queue count false w next is few d =
    let calls = few_calls queue count (lends_none w) d.counts d.fills in
    let each = few_each queue count (most queue w) (lends_none w) d.counts few d.fills in
    record { turn = Offers queue d.counts; count = d.taken; few = (omega (arith, few, d.takes.within), omega (arith, few, calls), each); is = d.is }

-- each of them
pub turned_so : (read : Reading) (event : Event) (w next : World) → IsTurn event w → Happens read event w true next → IsTurned read w next
turned_so read (Deliver queue count) w next turn happens = delivery_so read queue count (count == 0) w next refl turn happens.1
turned_so read Open w next turn happens = record { turn = Opens; count = 0; few = refl; is = happens.1 }
turned_so read (End queue) w next turn happens = record { turn = Tells queue; count = 0; few = refl; is = happens.1 }
turned_so read other w next turn happens = absurd turn

-- it is a delivery, an opening or an end
pub turn_settles : (event : Event) (w : World) → IsTurn event w → IsSettling event
turn_settles (Deliver queue count) w turn = tt
turn_settles Open w turn = tt
turn_settles (End queue) w turn = tt
turn_settles other w turn = absurd turn
