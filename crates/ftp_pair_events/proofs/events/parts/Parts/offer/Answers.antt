use Rattle.ftp_pair_events.specs.events.Shown.{shown, queue_of}
use Rattle.ftp_pair_events.proofs.events.Filling.{offers}
use Rattle.std.proofs.Common.{arith}
use Rattle.ftp_pair_events.proofs.events.Keeping.{then}
use Rattle.ftp_pair_events.proofs.events.parts.Parts.offer.Goals as goal

pub returns-clause-done : goal.returns-clause-done
returns-clause-done g c calm =
    let moved = c.push.ensures.moved calm in
    let takes = c.push.ensures.takes calm in
    let filled = c.fill.ensures.filled moved.0 in (
      filled.0,
      λ read reads. offers read (queue_of c.args.queue) c.args.count c.push.result (shown g.N.Near.client g.F.Far.server c.args.self.now) (shown g.N.Near.client g.F.Far.server c.fill.new.self) (shown g.N.Near.client g.F.Far.server c.push.new.self)
          filled.1 (takes.1 read reads) (moved.1 read reads),
    )

pub returns-clause-counted : goal.returns-clause-counted
returns-clause-counted g c = then c.fill.ensures.counted c.push.ensures.counted (omega arith)
