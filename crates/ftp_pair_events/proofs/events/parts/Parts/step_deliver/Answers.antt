use Rattle.ftp_pair_events.specs.events.Shown.{shown, queue_of}
use Rattle.ftp_pair_events.proofs.events.Filling.{as_shown}
use Rattle.std.proofs.Common.{arith}
use Rattle.ftp_pair_events.proofs.events.Keeping.{none, fewer, then}
use Rattle.ftp_pair_events.proofs.events.parts.Parts.step_deliver.Goals as goal

pub returns-clause-ok : goal.returns-clause-ok
returns-clause-ok g c =
    as_shown (queue_of c.args.queue) c.args.count c.args.self.now.calm c.deliver.new.self.calm c.ready.new.self.calm (shown g.N.Near.client g.F.Far.server c.args.self.now) (shown g.N.Near.client g.F.Far.server c.ready.new.self)
    (shown g.N.Near.client g.F.Far.server c.deliver.new.self) c.ready.ensures.same c.ready.ensures.calm c.deliver.ensures.does

pub returns-then-not-can_deliver-clause-counted : goal.returns-then-not-can_deliver-clause-counted
returns-then-not-can_deliver-clause-counted g c = none _ _ _

pub returns-in_err-ready-clause-counted : goal.returns-in_err-ready-clause-counted
returns-in_err-ready-clause-counted g c = fewer c.ready.ensures.counted (omega arith)

pub returns-clause-counted : goal.returns-clause-counted
returns-clause-counted g c = then c.ready.ensures.counted c.deliver.ensures.counted (omega arith)
