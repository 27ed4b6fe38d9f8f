-- The events that a world is given, and those by which it comes to rest, as theorems speak of them.
use Rattle.std.specs.Prelude.{◌≤◌, true, Bool}
use Rattle.ftp_client_model.specs.Tries.{over_breaks}
use Rattle.laws_world.specs.Events as events
use Rattle.laws_world.specs.Events.{Happens}
use Rattle.laws_world.specs.World.{World}
use Rattle.ftp_pair_events.specs.events.Shown.{Steps, queue_of}
use Rattle.ftp_pair_events.specs.declared.events.event.Event.{Event}
use Rattle.ftp_pair_events.specs.declared.events.event.Event.TheVariants as Given
use Rattle.ftp_pair_events.specs.declared.events.turn.Turn.{Turn}
use Rattle.ftp_pair_events.specs.declared.events.turn.Turn.TheVariants as Turns

-- an event as theorems speak of it
abbrev pub event_of : {A : Type 0} → Event A → events.Event
event_of (Given.Deliver queue count) = events.Deliver (queue_of queue) count
event_of Given.Open = events.Open
event_of Given.Refuse = events.Refuse
event_of (Given.End queue) = events.End (queue_of queue)
event_of Given.Break = events.Break
event_of Given.EndControl = events.EndControl
event_of (Given.Next op moment) = events.Next op moment.seconds
event_of (Given.Upload path octets how moment) = events.Upload (over_breaks path octets how) moment.seconds

-- a turn is an event too
abbrev pub event_of_turn : Turn → events.Event
event_of_turn (Turns.Deliver queue) = events.Deliver (queue_of queue) 4096
event_of_turn Turns.Open = events.Open
event_of_turn (Turns.End queue) = events.End (queue_of queue)

-- by itself a world delivers, 4,096 octets at most at once, opens links and tells of ends
abbrev pub IsSmallDelivery : events.Event → Type 0
IsSmallDelivery (events.Deliver queue count) = count ≤ 4096
IsSmallDelivery events.Open = Unit {0}
IsSmallDelivery (events.End queue) = Unit {0}
IsSmallDelivery event = ⊥

-- one of these happened
pub record Progresses (was calm : Bool) (old new : World) : Type 0 where
  pub event : events.Event
  pub small : IsSmallDelivery event
  pub happened : Steps was calm (λ read. Happens read event old true new)
