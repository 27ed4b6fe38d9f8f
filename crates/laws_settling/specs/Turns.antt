-- What a world does by itself until nothing is in flight: turns. A loop of turns ends, since no run of deliveries, openings and ends goes
-- on for ever.
use Rattle.std.specs.Prelude.{◌+◌, ◌≤◌, true, length}
use Rattle.ftp_server_model.specs.Machine.{IsReading, Reading}
use Rattle.laws_world.specs.Claims.{IsSettling}
use Rattle.laws_world.specs.Events.{Event, Deliver, Open, End, Happens, in_queue}
use Rattle.laws_world.specs.Still.{queue_room}
use Rattle.laws_world.specs.World.{World}

-- each run of deliveries, openings and ends from a world ends, whatever each of them moves or takes
pub data Ends (read : Reading) : World → Type 0 where
  ends : {w : World} → ((event : Event) (next : World) → IsSettling event → Happens read event w true next → Ends read next) → Ends read w

-- a turn is a delivery that offers no more than a queue's room beyond what is on its way, an opening, or an end
abbrev pub IsTurn : Event → World → Type 0
IsTurn (Deliver queue count) w = count ≤ queue_room + length (in_queue queue w)
IsTurn Open w = Unit {0}
IsTurn (End queue) w = Unit {0}
IsTurn event w = ⊥

-- a turn happened, whatever reads the server's lines
abbrev pub TurnHappened : (old new : World) → Type 0
TurnHappened old new = (event : Event) × IsTurn event old × ((read : Reading) → IsReading read → Happens read event old true new)
