use Rattle.ftp_pair_events.specs.events.Happening.{event_of_turn}
use Rattle.ftp_pair_events.specs.events.Shown.{shown}
use Rattle.ftp_pair_events.proofs.events.Turning.{not_still, turn_small, turn_few}
use Rattle.ftp_pair_events.proofs.events.Keeping.{none, fewer}
use Rattle.ftp_pair_events.proofs.events.parts.Parts.turn.Goals as goal

pub returns-clause-does : goal.returns-clause-does
returns-clause-does g c is = record { event = event_of_turn c.in-Some.turn; small = turn_small c.in-Some.turn; happened = c.take_turn.ensures.does }

pub returns-clause-counted : goal.returns-clause-counted
returns-clause-counted g c = fewer c.take_turn.ensures.counted (turn_few c.in-Some.turn)

pub returns-in_default-clause-counted : goal.returns-in_default-clause-counted
returns-in_default-clause-counted g c = none _ _ _

pub returns-clause-progresses : goal.returns-clause-progresses
returns-clause-progresses g c is = not_still c.in-Some.turn (shown g.N.Near.client g.F.Far.server c.args.self.now) c.in-Some.ensures.some
