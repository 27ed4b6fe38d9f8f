use Rattle.std.proofs.Common.{sym, ◌∙◌, arith}
use Rattle.ftp_pair_events.specs.events.Shown.{shown}
use Rattle.ftp_pair_events.proofs.events.Whole.{broke}
use Rattle.ftp_pair_events.proofs.events.Keeping.{none, fewer, then, at_most}
use Rattle.ftp_pair_events.proofs.events.parts.Parts.step_break.Goals as goal

pub returns-clause-ok : goal.returns-clause-ok
returns-clause-ok g c calm =
    let served = c.finish.ensures.moved calm in
    let done = c.break_link.ensures.moved served.0 in (
      sym c.ready_marked.ensures.calm ∙ done.0,
      λ read reads. broke read (shown g.N.Near.client g.F.Far.server c.args.self.now) (shown g.N.Near.client g.F.Far.server c.ready_marked.new.self) (shown g.N.Near.client g.F.Far.server c.break_link.new.self) (shown g.N.Near.client g.F.Far.server c.finish.new.self)
          (sym c.is_linked.ensures ∙ c.if-not-is_linked.false) c.in_ok-ready_marked.ensures.ok done.1 served.1,
    )

pub returns-then-not-is_linked-clause-counted : goal.returns-then-not-is_linked-clause-counted
returns-then-not-is_linked-clause-counted g c = none _ _ _

pub returns-in_err-ready_marked-clause-counted : goal.returns-in_err-ready_marked-clause-counted
returns-in_err-ready_marked-clause-counted g c = fewer c.ready_marked.ensures.counted (omega arith)

pub returns-clause-counted : goal.returns-clause-counted
returns-clause-counted g c =
    let marked = then c.ready_marked.ensures.counted c.break_link.ensures.counted (at_most 6) in
    then marked c.finish.ensures.counted (omega arith)
