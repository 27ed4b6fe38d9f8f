use Rattle.std.proofs.Common.{sym, ◌∙◌}
use Rattle.ftp_pair_events.specs.events.Shown.{shown}
use Rattle.ftp_pair_events.proofs.events.Whole.{opened}
use Rattle.std.proofs.Common.{arith}
use Rattle.ftp_pair_events.proofs.events.Keeping.{at_most, then, none}
use Rattle.ftp_pair_events.proofs.events.parts.Parts.step_open.Goals as goal

pub returns-clause-does : goal.returns-clause-does
returns-clause-does g c calm =
    let served = c.finish.ensures.moved calm in
    let done = c.open_link.ensures.moved served.0 in (
      sym c.lend_none.ensures.calm ∙ done.0,
      λ read reads. opened read (shown g.N.Near.client g.F.Far.server c.args.self.now) (shown g.N.Near.client g.F.Far.server c.lend_none.new.self) (shown g.N.Near.client g.F.Far.server c.open_link.new.self) (shown g.N.Near.client g.F.Far.server c.finish.new.self)
          (sym c.is_asked_for.ensures ∙ c.if-not-is_asked_for.false) c.lend_none.ensures.moved done.1 served.1,
    )

pub returns-clause-counted : goal.returns-clause-counted
returns-clause-counted g c =
    let opened = then c.lend_none.ensures.counted c.open_link.ensures.counted (at_most 6) in
    then opened c.finish.ensures.counted (omega arith)

pub returns-then-not-is_asked_for-clause-counted : goal.returns-then-not-is_asked_for-clause-counted
returns-then-not-is_asked_for-clause-counted g c = none _ _ _
