-- What is quiet: a world in which nothing moves that takes no memory is quiet, unless a queue is full whose receiver may not take.
use Rattle.std.specs.Prelude.{◌≡◌, ◌⊎◌, ℕ, ◌≤◌, ◌&&◌, false, nat_lt, length, IsTrue}
use Rattle.ftp_ends.specs.Octets.{has_octets}
use Rattle.laws_world.specs.Events.{Queue, Deliver, Open, End, IsQuiet, can_happen, due, in_queue, may_take}
use Rattle.laws_world.specs.World.{World}

-- own choice: a queue has room for so many octets from the start, as many as one output call is given at most
abbrev pub queue_room : ℕ
queue_room = 4096

-- no delivery of one octet up to those of a whole queue, no opening and no end is possible
pub record IsStill (w : World) : Type 0 where
  pub moved : (queue : Queue) (count : ℕ) → 1 ≤ count → count ≤ queue_room → can_happen (Deliver queue count) w ≡ false
  pub opened : can_happen Open w ≡ false
  pub ended : (queue : Queue) → can_happen (End queue) w ≡ false

-- what a call that takes no memory finds of a queue: no octet is moved into its room, and none of it may be taken
pub record IsQueueAtRest (queue : Queue) (w : World) : Type 0 where
  pub moved : (has_octets (due queue w) && nat_lt (length (in_queue queue w)) queue_room) ≡ false
  pub taken : (has_octets (in_queue queue w) && may_take queue w) ≡ false

-- a queue is full, its receiver may not take of it, and more is due
pub record IsBlocked (queue : Queue) (w : World) : Type 0 where
  pub full : queue_room ≤ length (in_queue queue w)
  pub refused : may_take queue w ≡ false
  pub owes : IsTrue (has_octets (due queue w))

-- a world that is still is quiet, or a queue of it is blocked, whatever led to it
abbrev pub StillIsQuiet : Type 0
StillIsQuiet = (w : World) → IsStill w → IsQuiet w ⊎ ((queue : Queue) × IsBlocked queue w)

-- nothing else keeps one from being quiet: a blocked queue does
abbrev pub BlockedIsNotQuiet : Type 0
BlockedIsNotQuiet = (w : World) (queue : Queue) → IsBlocked queue w → IsQuiet w → ⊥

-- what is quiet is still
abbrev pub QuietIsStill : Type 0
QuietIsStill = (w : World) → IsQuiet w → IsStill w

-- where every queue is at rest, no link is asked for and nobody is to be told of an end, a world is still: so settling can test it
abbrev pub RestingIsStill : Type 0
RestingIsStill =
    (w : World) → ((queue : Queue) → IsQueueAtRest queue w) → can_happen Open w ≡ false → ((queue : Queue) → can_happen (End queue) w ≡ false) → IsStill w
