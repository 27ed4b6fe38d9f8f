use Rattle.std.proofs.Common.{sym, ◌∙◌}
use Rattle.ftp_pair_events.specs.events.Shown.{shown, queue_of}
use Rattle.ftp_pair_events.proofs.events.Whole.{was_told}
use Rattle.std.proofs.Common.{arith}
use Rattle.ftp_pair_events.proofs.events.Keeping.{at_most, then, none}
use Rattle.ftp_pair_events.proofs.events.parts.Parts.step_end.Goals as goal

pub returns-clause-does : goal.returns-clause-does
returns-clause-does g c calm =
    let served = c.finish.ensures.moved calm in
    let done = c.tell.ensures.moved served.0 in (
      sym c.lend_none.ensures.calm ∙ done.0,
      λ read reads. was_told read (queue_of c.args.queue) (shown g.N.Near.client g.F.Far.server c.args.self.now) (shown g.N.Near.client g.F.Far.server c.lend_none.new.self) (shown g.N.Near.client g.F.Far.server c.tell.new.self) (shown g.N.Near.client g.F.Far.server c.finish.new.self)
          (sym c.can_end.ensures ∙ c.if-not-can_end.false) c.lend_none.ensures.moved done.1 served.1,
    )

pub returns-clause-counted : goal.returns-clause-counted
returns-clause-counted g c =
    let told = then c.lend_none.ensures.counted c.tell.ensures.counted (at_most 3) in
    then told c.finish.ensures.counted (omega arith)

pub returns-then-not-can_end-clause-counted : goal.returns-then-not-can_end-clause-counted
returns-then-not-can_end-clause-counted g c = none _ _ _
