-- The events of a world: when each is possible, and what it does, as a function of the counts of octets that really move.
use Rattle.std.specs.Prelude.{◌≡◌, ℕ, ◌+◌, ◌-◌, ◌<◌, ◌≤◌, ◌==◌, ◌&&◌, ◌||◌, Bool, true, false}
use Rattle.std.specs.Prelude.{not, nat_lt, min, List, [], ◌∷◌, ◌++◌, length, take, drop, Some, IsTrue}
use Rattle.ftp_operation.specs.declared.op.Op.{Op}
use Rattle.ftp_ends.specs.Octets.{has_octets}
use Rattle.ftp_ends.specs.Link.{is_wanted, is_connecting}
use Rattle.ftp_client_model.specs.Calls as near
use Rattle.ftp_client_model.specs.Tries.{OverBreaks}
use Rattle.ftp_client_model.specs.View.{View as Near}
use Rattle.ftp_server_model.specs.Calls as far
use Rattle.ftp_server_model.specs.Machine as machine
use Rattle.ftp_server_model.specs.Machine.{Reading}
use Rattle.laws_world.specs.Serving.{after_event}
use Rattle.laws_world.specs.World.{World, Control, LeftByNear, LeftByFar, Parted, Link, Gone, Opened}
use Rattle.laws_world.specs.World.{ClosedByNear, ClosedByFar, Refused, Broken, with_mark, gone, parted, counted}

-- the four queues: to the server and to the client, over the control connection and over the data link
pub data Queue : Type 0 where
  ControlToServer ControlToClient : Queue
  DataToServer DataToClient : Queue

-- octets are moved or taken; a wanted link opens, or is refused; an end is told that the other has closed; the link breaks; the
-- control connection ends; an operation, or an upload over breaks, is begun at a moment
pub data Event : Type 0 where
  Deliver : (queue : Queue) → (count : ℕ) → Event
  Open : Event
  Refuse : Event
  End : (queue : Queue) → Event
  Break : Event
  EndControl : Event
  Next : (op : Op (List ℕ)) → (moment : ℕ) → Event
  Upload : (upload : OverBreaks) → (moment : ℕ) → Event

-- ---- the queues

-- the octets on their way
abbrev pub in_queue : Queue → World → List ℕ
in_queue ControlToServer w = w.control_to_server
in_queue ControlToClient w = w.control_to_client
in_queue DataToServer w = w.data_to_server
in_queue DataToClient w = w.data_to_client

-- what the sender of a queue has still to give
abbrev pub due : Queue → World → List ℕ
due ControlToServer w = w.near.owed
due ControlToClient w = w.far.owed
due DataToServer w = near.to_give w.near
due DataToClient w = far.to_give w.far

-- one output call of the sender gave so many octets
abbrev pub pulled : Queue → World → ℕ → World
pulled ControlToServer w count = record w { control_to_server = w.control_to_server ++ take count w.near.owed; near = near.gives_control count w.near }
pulled ControlToClient w count = record w { control_to_client = w.control_to_client ++ take count w.far.owed; far = far.gives_control count w.far }
pulled DataToServer w count = record w { data_to_server = w.data_to_server ++ take count (near.to_give w.near); near = near.gives_data count w.near }
pulled DataToClient w count = record w { data_to_client = w.data_to_client ++ take count (far.to_give w.far); far = far.gives_data count w.far }

-- the receiver took so many octets; `read` is how the server reads its lines
abbrev pub pushed : Reading → Queue → ℕ → World → World
pushed read ControlToServer count w = record w { far = machine.hears read w.far (take count w.control_to_server); control_to_server = drop count w.control_to_server }
pushed read ControlToClient count w = record w { near = near.hears w.near (take count w.control_to_client); control_to_client = drop count w.control_to_client }
pushed read DataToServer count w = record w { far = far.receives w.far (take count w.data_to_server); data_to_server = drop count w.data_to_server; came = counted (w.came + count) }
pushed read DataToClient count w = record w { near = near.receives w.near (take count w.data_to_client); data_to_client = drop count w.data_to_client; came = counted (w.came + count) }

-- the receiver may take an octet
abbrev pub may_take : Queue → World → Bool
may_take ControlToServer w = machine.may_hear w.far
may_take ControlToClient w = near.may_hear w.near
may_take DataToServer w = far.may_receive w.far
may_take DataToClient w = near.may_receive w.near

-- so many octets of a queue could be taken, each when its turn came
abbrev pub MayTakeFrom : Reading → Queue → World → ℕ → Type 0
MayTakeFrom read queue w count = (k : ℕ) → k < count → IsTrue (may_take queue (pushed read queue k w))

-- ---- a delivery
--
--     sender    -- pulled -->    queue       -- pushed -->    receiver
--     due                        in_queue                     may_take
--
-- A delivery of n octets has two parts. Calls of the sender, each of which `Gives` some octets, fill the queue until n are there or
-- nothing is due (`Fills`). Then the first n at most are offered to the receiver, which takes some of them (`Takes`).

-- a queue is filled by one output call after the other
abbrev pub filled : Queue → World → List ℕ → World
filled queue w [] = w
filled queue w (count ∷ counts) = filled queue (pulled queue w count) counts

-- a call with so much room gives no more than is due, and something where there is room and something is due
pub record Gives (room : ℕ) (due : List ℕ) (count : ℕ) : Type 0 where
  pub within : count ≤ min room (length due)
  pub some : 0 < room → IsTrue (has_octets due) → 0 < count

-- one call after the other gives, with the room that is left of so many octets, until there is none or nothing is due
abbrev pub Fills : Queue → ℕ → World → List ℕ → Type 0
Fills queue count w [] = (has_octets (due queue w) && nat_lt (length (in_queue queue w)) count) ≡ false
Fills queue count w (gave ∷ counts) =
    Gives (count - length (in_queue queue w)) (due queue w) gave × (0 < gave) × Fills queue count (pulled queue w gave) counts

-- the first octets of a queue are offered, so many at most, and some of them are taken; one at least where one may be taken
pub record Takes (read : Reading) (queue : Queue) (count : ℕ) (w : World) (taken : ℕ) : Type 0 where
  pub within : taken ≤ min count (length (in_queue queue w))
  pub may : MayTakeFrom read queue w taken
  pub some : 0 < count → IsTrue (has_octets (in_queue queue w)) → IsTrue (may_take queue w) → 0 < taken

-- the octets that a delivery took, out of a queue
abbrev pub taking : Queue → ℕ → World → World
taking queue count w = record w { taken = take count (in_queue queue w) }

-- a delivery of so many octets: the queue is filled up to them, and the first are offered
pub record Delivers (read : Reading) (queue : Queue) (count : ℕ) (old new : World) : Type 0 where
  pub counts : List ℕ
  pub taken : ℕ
  pub fills : Fills queue count old counts
  pub takes : Takes read queue count (filled queue old counts) taken
  pub is : new ≡ after_event (pushed read queue taken (taking queue taken (filled queue old counts)))

-- own choice: a delivery of none moves what one call with 4,096 octets of room gives, and offers nothing
pub record Moves (queue : Queue) (old new : World) : Type 0 where
  pub gave : ℕ
  pub gives : Gives 4096 (due queue old) gave
  pub is : new ≡ after_event (pulled queue old gave)

-- an octet is moved or taken
abbrev pub can_move : Queue → ℕ → World → Bool
can_move queue count w = has_octets (due queue w) && ((count == 0) || nat_lt (length (in_queue queue w)) count)

-- an octet that is on its way may be taken
abbrev pub can_take : Queue → ℕ → World → Bool
can_take queue count w = not (count == 0) && has_octets (in_queue queue w) && may_take queue w

-- ---- openings

-- no data link stands
abbrev pub is_gone : Link → Bool
is_gone Gone = true
is_gone other = false

-- a link is wanted: there is none, one end connects and the other accepts
abbrev pub is_asked_for : World → Bool
is_asked_for w = is_gone w.link && is_wanted (near.wants w.near) (far.wants w.far)

-- both ends are told that it is open, each with the other's host
abbrev pub link_opens : World → World
link_opens w = record w {
  link = Opened;
  came = 0;
  near = near.data_opened w.far.context.here w.near;
  far = far.data_opened w.near.here w.far;
}

-- the end that connects is told that it is refused
abbrev pub refused_by : Bool → World → World
refused_by true w = record w { near = near.data_refused w.near }
refused_by false w = record w { far = far.data_refused w.far }

-- a wanted link is refused, and marked so
abbrev pub link_refused : World → World
link_refused w = with_mark Refused (refused_by (is_connecting (near.wants w.near)) w)

-- ---- ends

-- the client has left the control connection, and the server was not told
abbrev pub is_left_by_near : Control → Bool
is_left_by_near LeftByNear = true
is_left_by_near other = false

-- the server has left it, and the client was not told
abbrev pub is_left_by_far : Control → Bool
is_left_by_far LeftByFar = true
is_left_by_far other = false

-- the client has closed the link, and the server was not told
abbrev pub is_closed_by_near : Link → Bool
is_closed_by_near ClosedByNear = true
is_closed_by_near other = false

-- the server has closed it, and the client was not told
abbrev pub is_closed_by_far : Link → Bool
is_closed_by_far ClosedByFar = true
is_closed_by_far other = false

-- the sender of a queue has closed its connection
abbrev pub is_closed : Queue → World → Bool
is_closed ControlToServer w = is_left_by_near w.control
is_closed ControlToClient w = is_left_by_far w.control
is_closed DataToServer w = is_closed_by_near w.link
is_closed DataToClient w = is_closed_by_far w.link

-- the receiver is told; a data link is gone
abbrev pub told : Queue → World → World
told ControlToServer w = record w { far = far.control_end w.far }
told ControlToClient w = record w { near = near.control_end w.near }
told DataToServer w = gone (record w { far = far.data_end w.far })
told DataToClient w = gone (record w { near = near.data_end w.near })

-- ---- a break, and the end of the control connection

-- each end that hasn't closed the link is told
abbrev pub broken_by : Link → World → World
broken_by Gone w = w
broken_by Opened w = record w { near = near.data_fault w.near; far = far.data_fault w.far }
broken_by ClosedByNear w = record w { far = far.data_fault w.far }
broken_by ClosedByFar w = record w { near = near.data_fault w.near }

-- the link breaks: what was on its way is lost, and the mark says how much had come
abbrev pub link_breaks : World → World
link_breaks w = with_mark (Broken w.came) (gone (broken_by w.link w))

-- both ends are told, and what was on its way is lost
abbrev pub ends_control : World → World
ends_control w = parted (record w { near = near.control_end w.near; far = far.control_end w.far; cutoff = Some (length w.marks) })

-- neither end is on the control connection any more
abbrev pub is_parted : Control → Bool
is_parted Parted = true
is_parted other = false

-- ---- the next operation

-- the client has no operation open, and no link stands or is wanted
abbrev pub can_begin : World → Bool
can_begin w = not (near.is_busy w.near) && is_gone w.link && not (is_asked_for w)

-- the server's clock is set, the client has begun, and what it began has no mark yet
abbrev pub begins_at_moment : ℕ → Near → World → World
begins_at_moment moment begun w = record w { far = far.clocked moment w.far; near = begun; marks = w.marks ++ [] ∷ [] }

-- the client begins an operation
abbrev pub operation_begins : Op (List ℕ) → ℕ → World → World
operation_begins op moment w = begins_at_moment moment (near.starts op w.near) w

-- it begins an upload over breaks: all its tries have the one moment (own choice)
abbrev pub upload_begins : OverBreaks → ℕ → World → World
upload_begins upload moment w = begins_at_moment moment (near.uploads upload w.near) w

-- ---- all events

-- whether an event is possible: just where the world's step answers that it was
abbrev pub can_happen : Event → World → Bool
can_happen (Deliver queue count) w = can_move queue count w || can_take queue count w
can_happen Open w = is_asked_for w
can_happen Refuse w = is_asked_for w
can_happen (End queue) w = is_closed queue w && not (has_octets (in_queue queue w)) && not (has_octets (due queue w))
can_happen Break w = not (is_gone w.link)
can_happen EndControl w = not (is_parted w.control)
can_happen (Next op moment) w = can_begin w
can_happen (Upload upload moment) w = can_begin w

-- a delivery of none moves octets, another one moves and offers them
abbrev pub DeliversBy : Bool → Reading → Queue → ℕ → World → World → Type 0
DeliversBy true read queue count old new = Moves queue old new
DeliversBy false read queue count old new = Delivers read queue count old new

-- what a possible event does
abbrev pub Does : Reading → Event → World → World → Type 0
Does read (Deliver queue count) old new = DeliversBy (count == 0) read queue count old new
Does read Open old new = new ≡ after_event (link_opens old)
Does read Refuse old new = new ≡ after_event (link_refused old)
Does read (End queue) old new = new ≡ after_event (told queue old)
Does read Break old new = new ≡ after_event (link_breaks old)
Does read EndControl old new = new ≡ after_event (ends_control old)
Does read (Next op moment) old new = new ≡ after_event (operation_begins op moment old)
Does read (Upload upload moment) old new = new ≡ after_event (upload_begins upload moment old)

-- what the event before took is no longer lent
abbrev pub lends_none : World → World
lends_none w = record w { taken = [] }

-- a step of a world: an event that is possible happens, and one that isn't changes nothing
abbrev pub Happens : Reading → Event → World → Bool → World → Type 0
Happens read event old true new = IsTrue (can_happen event old) × Does read event (lends_none old) new
Happens read event old false new = (can_happen event old ≡ false) × (new ≡ old)

-- nothing is in flight: no octet moves, no link opens, and nobody is to be told of an end
pub record IsQuiet (w : World) : Type 0 where
  pub moved : (queue : Queue) (count : ℕ) → can_happen (Deliver queue count) w ≡ false
  pub opened : can_happen Open w ≡ false
  pub ended : (queue : Queue) → can_happen (End queue) w ≡ false
