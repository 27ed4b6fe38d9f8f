use Rattle.std.proofs.Common.{sym, ◌∙◌}
use Rattle.ftp_pair_events.specs.events.Shown.{shown}
use Rattle.ftp_pair_events.proofs.events.Whole.{was_cut}
use Rattle.std.proofs.Common.{arith}
use Rattle.ftp_pair_events.proofs.events.Keeping.{at_most, then, none}
use Rattle.ftp_pair_events.proofs.events.parts.Parts.step_end_control.Goals as goal

pub returns-clause-does : goal.returns-clause-does
returns-clause-does g c calm =
    let served = c.finish.ensures.moved calm in (
      sym c.lend_none.ensures.calm ∙ sym c.end_control.ensures.calm ∙ served.0,
      λ read reads. was_cut read (shown g.N.Near.client g.F.Far.server c.args.self.now) (shown g.N.Near.client g.F.Far.server c.lend_none.new.self) (shown g.N.Near.client g.F.Far.server c.end_control.new.self) (shown g.N.Near.client g.F.Far.server c.finish.new.self)
          (sym c.is_joined.ensures ∙ c.if-not-is_joined.false) c.lend_none.ensures.moved c.end_control.ensures.moved served.1,
    )

pub returns-clause-counted : goal.returns-clause-counted
returns-clause-counted g c =
    let ended = then c.lend_none.ensures.counted c.end_control.ensures.counted (at_most 0) in
    then ended c.finish.ensures.counted (omega arith)

pub returns-then-not-is_joined-clause-counted : goal.returns-then-not-is_joined-clause-counted
returns-then-not-is_joined-clause-counted g c = none _ _ _
