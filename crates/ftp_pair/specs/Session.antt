-- What a session in a world of two ends has come to: from which ends, by which events, and what is known of it then.
use Rattle.std.specs.Prelude.{◌≡◌, ℕ, ◌+◌, ◌<◌, ◌^◌, Bool, true, false, ◌&&◌, nat_eq, List, [], ◌∷◌, ◌++◌, take}
use Rattle.ftp_client_model.specs.Failing.{Client}
use Rattle.ftp_server_model.specs.Far.{Server}
use Rattle.ftp_server_model.specs.Machine.{Reading, IsReading}
use Rattle.laws_world.specs.Agreement.{AreHonest, AreSingle, IsDirect, Leads, Order, WorldAgrees}
use Rattle.laws_world.specs.Claims.{Beginning, IsAnswered, IsFair, AreTimed, state_of, world_of}
use Rattle.laws_world.specs.Events.{Event, IsQuiet, can_happen}
use Rattle.laws_world.specs.World.{World}
use Rattle.ftp_pair_events.specs.events.Calm.{KeepsTally, Tally, most_in, tally_of}
use Rattle.ftp_pair_events.specs.events.Happening.{IsSmallDelivery}
use Rattle.ftp_pair_events.specs.events.Shown.{shown}
use Rattle.ftp_pair_events.specs.declared.events.parts.Parts.{Parts}

-- a world, whether nothing failed in it so far: no end was refused memory, and no device failed; and what both ends have counted of that
pub record Seen : Type 0 where
  pub world : World
  pub calm : Bool
  pub tally : Tally

-- what parts show
abbrev pub seen : {A T N F : Type 0} → (N → Client) → (F → Server) → Parts A T N F → Seen
seen near far parts = record { world = shown near far parts; calm = parts.calm; tally = tally_of near far parts }

-- ---- when a world is calm

-- counts are of 64 bits
abbrev pub AreCounts : Tally → Type 0
AreCounts t = (t.near < 2 ^ 64) × (t.far.refusals < 2 ^ 64) × (t.far.failures.told < 2 ^ 64)

-- no count has moved
abbrev pub is_same_tally : Tally → Tally → Bool
is_same_tally old new = nat_eq new.near old.near && (nat_eq new.far.refusals old.far.refusals && nat_eq new.far.failures.told old.far.failures.told)

-- a world is calm just where it was, and each count is what it was
abbrev pub KeepsCalm : Seen → Seen → Type 0
KeepsCalm old new = AreCounts old.tally → new.calm ≡ (old.calm && is_same_tally old.tally new.tally)

-- how many failures can be counted in events at most
abbrev pub most_failures_of : List Event → ℕ
most_failures_of [] = 0
most_failures_of (event ∷ events) = most_in event + most_failures_of events

-- so it is after events in which so few failures can be counted that no count comes round: 2^64 octets can't be delivered in them, nor so many events be
abbrev pub KeepsCalmBy : List Event → Seen → Seen → Type 0
KeepsCalmBy given old new = most_failures_of given < 2 ^ 64 → KeepsCalm old new

-- so many failures at most were counted, and calm is what it was, and that there were none
abbrev pub Counted : ℕ → Seen → Seen → Type 0
Counted most old new = KeepsTally most old.calm new.calm old.tally new.tally

-- ---- what events lead to

-- these events lead from one to the other, where nothing failed, however the server reads its lines
abbrev pub LeadsCalmly : List Event → Seen → Seen → Type 0
LeadsCalmly given old new = new.calm ≡ true → (old.calm ≡ true) × ((read : Reading) → IsReading read → (begun : List Order) × Leads read old.world given begun new.world)

-- the first of them do
abbrev pub LeadsPartly : List Event → Seen → Seen → Type 0
LeadsPartly given old new = (count : ℕ) × LeadsCalmly (take count given) old new

-- none of these is possible here
abbrev pub AreIdle : List Event → World → Type 0
AreIdle [] w = Unit {0}
AreIdle (event ∷ events) w = (can_happen event w ≡ false) × AreIdle events w

-- each of these is a delivery of at most 4,096 octets, an opening or an end
abbrev pub AreSmall : List Event → Type 0
AreSmall [] = Unit {0}
AreSmall (event ∷ events) = IsSmallDelivery event × AreSmall events

-- some of these lead from one to the other, where nothing failed
abbrev pub LeadsSmall : Seen → Seen → Type 0
LeadsSmall old new =
    new.calm ≡ true → (old.calm ≡ true) × ((read : Reading) → IsReading read → (turns : List Event) × AreSmall turns × Leads read old.world turns [] new.world)

-- ---- where a session comes from

-- two ends that begin fairly, timed events that lead here, and the operations that these began
pub record Session (read : Reading) (from : Beginning) (given : List Event) (begun : List Order) (w : World) : Type 0 where
  pub fair : IsFair from
  pub timed : AreTimed given
  pub leads : Leads read (world_of from) given begun w

-- timed events lead here from two ends that begin fairly
pub record Reached (w : World) : Type 0 where
  pub from : Beginning
  pub fair : IsFair from
  pub given : List Event
  pub timed : AreTimed given
  pub leads : (read : Reading) → IsReading read → (begun : List Order) × Leads read (world_of from) given begun w

-- so it is where nothing failed
abbrev pub IsReached : Seen → Type 0
IsReached s = s.calm ≡ true → Reached s.world

-- ---- what is known then

-- each session that comes to the first world comes to the other by these events, having begun these operations more, and reports and map agree with all
abbrev pub GoesOn : Reading → List Event → List Order → World → World → Type 0
GoesOn read given more old new =
    (from : Beginning) (before : List Event) (begun : List Order) → Session read from before begun old
    → Session read from (before ++ given) (begun ++ more) new × WorldAgrees (state_of from) (begun ++ more) new

-- so it is after one event, which began these
abbrev pub AgreesBy : Event → List Order → Seen → Seen → Type 0
AgreesBy event more old new = new.calm ≡ true → (read : Reading) → IsReading read → GoesOn read (event ∷ []) more old.world new.world

-- and after events: these began the operations that they began on the way from the first world to the other
abbrev pub AgreesAfter : List Event → Seen → Seen → Type 0
AgreesAfter given old new =
    new.calm ≡ true → (read : Reading) → IsReading read → (more : List Order) × Leads read old.world given more new.world × GoesOn read given more old.world new.world

-- a session at rest: nothing is in flight, each operation begun has its report, and on honest connections, where none is an upload over breaks, all
-- is as in the direct run
pub record IsSettled (from : Beginning) (given : List Event) (begun : List Order) (w : World) : Type 0 where
  pub agrees : WorldAgrees (state_of from) begun w
  pub quiet : IsQuiet w
  pub answered : IsAnswered begun w
  pub direct : AreHonest given → AreSingle begun → IsDirect (state_of from) begun w

-- a session that comes to the first world comes to the other with no operation more, and is at rest there
abbrev pub SettlesAfter : Seen → Seen → Type 0
SettlesAfter old new =
    new.calm ≡ true → (read : Reading) → IsReading read → (from : Beginning) (before : List Event) (begun : List Order) → Session read from before begun old.world
    → (turns : List Event) × AreSmall turns × Session read from (before ++ turns) begun new.world
    × IsSettled from before begun new.world

-- the reports and the map agree with what was begun, from where it began
pub record AgreesHere (w : World) : Type 0 where
  pub from : Beginning
  pub given : List Event
  pub agrees : (read : Reading) → IsReading read → (begun : List Order) × Session read from given begun w × WorldAgrees (state_of from) begun w
