use Rattle.std.proofs.Common.{◌*◌, ◌+◌, arith, sym, ◌∙◌}
use Rattle.ftp_pair_events.specs.events.Shown.{shown, queue_of}
use Rattle.ftp_pair_events.proofs.events.Filling.{delivered}
use Rattle.ftp_pair_events.proofs.events.Keeping.{then}
use Rattle.ftp_pair_events.proofs.events.parts.Parts.deliver.Goals as goal

pub returns-clause-does : goal.returns-clause-does
returns-clause-does g c calm =
    let served = c.finish.ensures.moved calm in
    let carried = c.carry.ensures.done served.0 in (
      sym c.lend_none.ensures.calm ∙ carried.0,
      λ read reads. delivered read (queue_of c.args.queue) c.args.count (shown g.N.Near.client g.F.Far.server c.args.self.now) (shown g.N.Near.client g.F.Far.server c.lend_none.new.self) (shown g.N.Near.client g.F.Far.server c.carry.new.self) (shown g.N.Near.client g.F.Far.server c.finish.new.self)
          c.requires.possible c.lend_none.ensures.moved (carried.1 read reads) served.1,
    )

pub returns-clause-counted : goal.returns-clause-counted
returns-clause-counted g c =
    let carried = then {most = 3 * (c.args.count + 2)} c.lend_none.ensures.counted c.carry.ensures.counted (omega arith) in
    then carried c.finish.ensures.counted (omega arith)
