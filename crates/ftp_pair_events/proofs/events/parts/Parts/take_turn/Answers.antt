use Rattle.std.proofs.Common.{true, sym, ap, subst, arith}
use Rattle.ftp_pair_events.specs.events.Happening.{event_of_turn}
use Rattle.ftp_pair_events.specs.events.Shown.{shown}
use Rattle.ftp_pair_events.proofs.events.Whole.{stepped_on, stepped_sure}
use Rattle.ftp_pair_events.proofs.events.Keeping.{fewer}
use Rattle.ftp_pair_events.specs.events.Calm.{Counted, most_in}
use Rattle.ftp_pair_events.proofs.events.parts.Parts.take_turn.Goals as goal

pub returns-in-Deliver-clause-does : goal.returns-in-Deliver-clause-does
returns-in-Deliver-clause-does g c = stepped_on true c.args.self.now.calm c.deliver.new.self.calm (shown g.N.Near.client g.F.Far.server c.args.self.now) (shown g.N.Near.client g.F.Far.server c.deliver.new.self) (ap event_of_turn (sym c.in-Deliver.is)) c.deliver.ensures.does

pub returns-in-Open-clause-does : goal.returns-in-Open-clause-does
returns-in-Open-clause-does g c =
    stepped_sure c.step_open.result c.args.self.now.calm c.step_open.new.self.calm (shown g.N.Near.client g.F.Far.server c.args.self.now) (shown g.N.Near.client g.F.Far.server c.step_open.new.self)
    (ap event_of_turn (sym c.in-Open.is)) c.step_open.ensures.possible c.requires.possible c.step_open.ensures.does

pub returns-in-End-clause-does : goal.returns-in-End-clause-does
returns-in-End-clause-does g c =
    stepped_sure c.step_end.result c.args.self.now.calm c.step_end.new.self.calm (shown g.N.Near.client g.F.Far.server c.args.self.now) (shown g.N.Near.client g.F.Far.server c.step_end.new.self)
    (ap event_of_turn (sym c.in-End.is)) c.step_end.ensures.possible c.requires.possible c.step_end.ensures.does

pub returns-in-Deliver-clause-counted : goal.returns-in-Deliver-clause-counted
returns-in-Deliver-clause-counted g c = subst (λ t. Counted (most_in (event_of_turn t)) g.N.Near.client g.F.Far.server c.args.self.now c.deliver.new.self) (sym c.in-Deliver.is) c.deliver.ensures.counted

pub returns-in-Open-clause-counted : goal.returns-in-Open-clause-counted
returns-in-Open-clause-counted g c = subst (λ t. Counted (most_in (event_of_turn t)) g.N.Near.client g.F.Far.server c.args.self.now c.step_open.new.self) (sym c.in-Open.is) c.step_open.ensures.counted

pub returns-in-End-clause-counted : goal.returns-in-End-clause-counted
returns-in-End-clause-counted g c = subst (λ t. Counted (most_in (event_of_turn t)) g.N.Near.client g.F.Far.server c.args.self.now c.step_end.new.self) (sym c.in-End.is) c.step_end.ensures.counted
