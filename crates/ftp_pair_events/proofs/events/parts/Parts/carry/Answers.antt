use Rattle.std.proofs.Common.{arith}
use Rattle.ftp_pair_events.specs.events.Shown.{shown, queue_of}
use Rattle.ftp_pair_events.proofs.events.Filling.{moves_none, offers_so}
use Rattle.ftp_pair_events.proofs.events.Keeping.{fewer}
use Rattle.ftp_pair_events.proofs.events.parts.Parts.carry.Goals as goal

pub returns-then-count-eq0-clause-done : goal.returns-then-count-eq0-clause-done
returns-then-count-eq0-clause-done g c calm =
    let moved = c.pull.ensures.moved calm in
    let gives = c.pull.ensures.gives calm in
    (moved.0, λ read reads. moves_none read (queue_of c.args.queue) c.args.count c.pull.result (shown g.N.Near.client g.F.Far.server c.args.self.now) (shown g.N.Near.client g.F.Far.server c.pull.new.self) c.if-count-eq0.true gives.1 moved.1)

pub returns-else-count-eq0-clause-done : goal.returns-else-count-eq0-clause-done
returns-else-count-eq0-clause-done g c calm =
    let offered = c.offer.ensures.done calm in
    (offered.0, λ read reads. offers_so read (queue_of c.args.queue) c.args.count (shown g.N.Near.client g.F.Far.server c.args.self.now) (shown g.N.Near.client g.F.Far.server c.offer.new.self) (omega (arith, c.if-count-eq0.false)) (offered.1 read reads))

pub returns-then-count-eq0-clause-counted : goal.returns-then-count-eq0-clause-counted
returns-then-count-eq0-clause-counted g c = fewer c.pull.ensures.counted (omega arith)

pub returns-else-count-eq0-clause-counted : goal.returns-else-count-eq0-clause-counted
returns-else-count-eq0-clause-counted g c = c.offer.ensures.counted
