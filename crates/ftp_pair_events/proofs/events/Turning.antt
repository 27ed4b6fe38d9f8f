-- Turns are small events.
use Rattle.std.proofs.Common.{◌≡◌, ◌∙◌, ◌≤◌, true, false, sym, arith}
use Rattle.std.specs.Prelude.{IsTrue}
use Rattle.std.proofs.lemmas.Bool.{false≢true}
use Rattle.laws_world.specs.Events.{can_happen}
use Rattle.laws_world.specs.Still.{IsStill}
use Rattle.laws_world.specs.World.{World}
use Rattle.ftp_pair_events.specs.events.Calm.{most_in}
use Rattle.ftp_pair_events.specs.events.Happening.{IsSmallDelivery, event_of_turn}
use Rattle.ftp_pair_events.specs.events.Shown.{queue_of}
use Rattle.ftp_pair_events.specs.declared.events.turn.Turn.{Turn}
use Rattle.ftp_pair_events.specs.declared.events.turn.Turn.TheVariants as Turns

-- each is
pub turn_small : (turn : Turn) → IsSmallDelivery (event_of_turn turn)
turn_small (Turns.Deliver queue) = omega arith
turn_small Turns.Open = tt
turn_small (Turns.End queue) = tt

-- in a turn few failures are counted
pub turn_few : (turn : Turn) → most_in (event_of_turn turn) ≤ 12312
turn_few (Turns.Deliver queue) = omega arith
turn_few Turns.Open = omega arith
turn_few (Turns.End queue) = omega arith

-- where one is possible, a world is not still
pub not_still : (turn : Turn) (w : World) → IsTrue (can_happen (event_of_turn turn) w) → ¬ IsStill w
not_still (Turns.Deliver queue) w can still = absurd (false≢true (sym (still.moved (queue_of queue) 4096 (omega arith) (omega arith)) ∙ can))
not_still Turns.Open w can still = absurd (false≢true (sym still.opened ∙ can))
not_still (Turns.End queue) w can still = absurd (false≢true (sym (still.ended (queue_of queue)) ∙ can))
