-- The world that parts are, and what is said of a step while it is under way.
use Rattle.std.specs.Prelude.{◌≡◌, ℕ, ◌<◌, Bool, true, false, not, ◌&&◌, List, map, ◌==◌, ◌++◌, vec_len, vec_capacity, IsTrue}
use Rattle.ftp_operation.specs.Answer.{said_of}
use Rattle.ftp_ends.specs.Octets.{has_octets}
use Rattle.ftp_client_model.specs.Calls.{is_busy}
use Rattle.ftp_client_model.specs.Failing.{Client}
use Rattle.ftp_server_model.specs.Far.{Server}
use Rattle.ftp_server_model.specs.Machine.{Reading, IsReading}
use Rattle.laws_world.specs.World as world
use Rattle.laws_world.specs.World.{World}
use Rattle.laws_world.specs.Events as events
use Rattle.laws_world.specs.Events.{pushed, filled, Fills, is_gone, is_asked_for, Takes, taking, DeliversBy}
use Rattle.laws_world.specs.Serving.{after_event}
use Rattle.ftp_pair_events.specs.declared.queues.between.Control.{Control}
use Rattle.ftp_pair_events.specs.declared.queues.between.Control.TheVariants as Controls
use Rattle.ftp_pair_events.specs.declared.queues.between.Link.{Link}
use Rattle.ftp_pair_events.specs.declared.queues.between.Link.TheVariants as Links
use Rattle.ftp_pair_events.specs.declared.queues.between.Mark.{Mark}
use Rattle.ftp_pair_events.specs.declared.queues.between.Mark.TheVariants as Marks
use Rattle.ftp_pair_events.specs.declared.queues.between.Queue.{Queue}
use Rattle.ftp_pair_events.specs.declared.queues.between.Queue.TheVariants as Queues
use Rattle.ftp_pair_events.specs.declared.events.parts.Parts.{Parts}

-- how the control connection stands, as theorems speak of it
abbrev pub control_of : Control → world.Control
control_of Controls.Stands = world.Stands
control_of Controls.LeftByNear = world.LeftByNear
control_of Controls.LeftByFar = world.LeftByFar
control_of Controls.Parted = world.Parted

-- how the data link stands
abbrev pub link_shown : Link → world.Link
link_shown Links.Gone = world.Gone
link_shown Links.Opened = world.Opened
link_shown Links.ClosedByNear = world.ClosedByNear
link_shown Links.ClosedByFar = world.ClosedByFar

-- a mark
abbrev pub mark_of : Mark → world.Mark
mark_of Marks.Refused = world.Refused
mark_of (Marks.Broken came) = world.Broken came

-- a queue
abbrev pub queue_of : Queue → events.Queue
queue_of Queues.ControlToServer = events.ControlToServer
queue_of Queues.ControlToClient = events.ControlToClient
queue_of Queues.DataToServer = events.DataToServer
queue_of Queues.DataToClient = events.DataToClient

-- the world that parts are
abbrev pub shown : {A T N F : Type 0} → (N → Client) → (F → Server) → Parts A T N F → World
shown near far w = record {
  near = (near w.near).view;
  far = (far w.far).view;
  control_to_server = w.control_to_server.octets.items;
  control_to_client = w.control_to_client.octets.items;
  data_to_server = w.data_to_server.octets.items;
  data_to_client = w.data_to_client.octets.items;
  control = control_of w.control;
  link = link_shown w.link;
  came = w.came;
  listens = w.listens;
  marks = map (λ marks. map mark_of marks.items) w.marks.items;
  reports = map said_of w.reports.items;
  cutoff = w.cutoff;
  taken = w.taken.octets.items;
}

-- where nothing failed in it and nothing had before, this became of it
abbrev pub Calmly : {A T N F : Type 0} → Parts A T N F → Parts A T N F → Type 0 → Type 0
Calmly old new Becomes = new.calm ≡ true → (old.calm ≡ true) × Becomes

-- there is room for the report of an operation that is under way
abbrev pub HasRoom : {A T N F : Type 0} → (N → Client) → Parts A T N F → Type 0
HasRoom near parts = IsTrue (is_busy (near parts.near).view) → vec_len parts.reports < vec_capacity parts.reports

-- a queue was filled up to so many octets, by some calls
pub record FillsTo (queue : events.Queue) (count : ℕ) (old new : World) : Type 0 where
  pub counts : List ℕ
  pub fills : Fills queue count old counts
  pub is : new ≡ filled queue old counts

-- some calls so far, after which others may go on
pub record FillsSo (queue : events.Queue) (count : ℕ) (old new : World) : Type 0 where
  pub counts : List ℕ
  pub before : (more : List ℕ) → Fills queue count new more → Fills queue count old (counts ++ more)
  pub is : new ≡ filled queue old counts

-- no link stands or is wanted
abbrev pub is_unlinked : World → Bool
is_unlinked w = is_gone w.link && not (is_asked_for w)

-- a delivery of some octets, before what is served after it
pub record Offers (read : Reading) (queue : events.Queue) (count : ℕ) (old new : World) : Type 0 where
  pub counts : List ℕ
  pub taken : ℕ
  pub fills : Fills queue count old counts
  pub takes : Takes read queue count (filled queue old counts) taken
  pub is : new ≡ pushed read queue taken (taking queue taken (filled queue old counts))

-- what happened, where nothing failed, however the server reads its lines
abbrev pub Steps : (was calm : Bool) → (Reading → Type 0) → Type 0
Steps was calm Happened = calm ≡ true → (was ≡ true) × ((read : Reading) → IsReading read → Happened read)

-- how many octets are in a queue
abbrev pub len_of : {A T N F : Type 0} → Queue → Parts A T N F → ℕ
len_of Queues.ControlToServer parts = vec_len parts.control_to_server.octets
len_of Queues.ControlToClient parts = vec_len parts.control_to_client.octets
len_of Queues.DataToServer parts = vec_len parts.data_to_server.octets
len_of Queues.DataToClient parts = vec_len parts.data_to_client.octets

-- for how many octets it has room
abbrev pub queue_room_of : {A T N F : Type 0} → Queue → Parts A T N F → ℕ
queue_room_of Queues.ControlToServer parts = vec_capacity parts.control_to_server.octets
queue_room_of Queues.ControlToClient parts = vec_capacity parts.control_to_client.octets
queue_room_of Queues.DataToServer parts = vec_capacity parts.data_to_server.octets
queue_room_of Queues.DataToClient parts = vec_capacity parts.data_to_client.octets

-- a delivery: whatever world is served after it, that is the world after the delivery
abbrev pub Carries : Reading → events.Queue → ℕ → World → World → Type 0
Carries read queue count old mid = (new : World) → new ≡ after_event mid → DeliversBy (count == 0) read queue count old new

-- no octet of a queue moves, and none of it may be taken
abbrev pub rests : events.Queue → World → Bool
rests queue w = not (has_octets (events.due queue w)) && not (has_octets (events.in_queue queue w) && events.may_take queue w)

-- so it is of each queue
abbrev pub all_rest : World → Bool
all_rest w = rests events.ControlToServer w && rests events.ControlToClient w && rests events.DataToServer w && rests events.DataToClient w

-- nobody is to be told of an end
abbrev pub all_told : World → Bool
all_told w =
    not (events.can_happen (events.End events.ControlToServer) w) && not (events.can_happen (events.End events.ControlToClient) w)
    && not (events.can_happen (events.End events.DataToServer) w) && not (events.can_happen (events.End events.DataToClient) w)

-- nothing is in flight, as a test
abbrev pub is_quiet : World → Bool
is_quiet w = all_rest w && not (is_asked_for w) && all_told w

-- no delivery of 4,096 octets is possible
pub record NoneFlows (w : World) : Type 0 where
  pub to_server : events.can_happen (events.Deliver events.ControlToServer 4096) w ≡ false
  pub to_client : events.can_happen (events.Deliver events.ControlToClient 4096) w ≡ false
  pub up : events.can_happen (events.Deliver events.DataToServer 4096) w ≡ false
  pub down : events.can_happen (events.Deliver events.DataToClient 4096) w ≡ false

-- nobody is to be told of an end
pub record NoneEnds (w : World) : Type 0 where
  pub to_server : events.can_happen (events.End events.ControlToServer) w ≡ false
  pub to_client : events.can_happen (events.End events.ControlToClient) w ≡ false
  pub up : events.can_happen (events.End events.DataToServer) w ≡ false
  pub down : events.can_happen (events.End events.DataToClient) w ≡ false
