use Rattle.std.proofs.Common.{◌-◌, ◌*◌, sym, subst, arith}
use Rattle.laws_world.specs.Still.{IsStill}
use Rattle.ftp_pair.specs.Session.{Counted, LeadsSmall, Seen}
use Rattle.ftp_pair.proofs.Agreeing.{settles}
use Rattle.ftp_pair.proofs.Calming.{left_few, settled_calm, turned}
use Rattle.ftp_pair.proofs.Settling.{none_counted, one_small, smaller}
use Rattle.ftp_pair.proofs.world.World.settle.Goals as goal

pub returns-then-not-turn-clause-settles : goal.returns-then-not-turn-clause-settles
returns-then-not-turn-clause-settles g c =
    let same = c.turn.ensures.same c.if-not-turn.true in
    settles c.args.self.now c.turn.new.self (subst (LeadsSmall c.args.self.now) (sym same) c.loop-left.invariant.leads)
    (λ calm. subst (λ (s : Seen). IsStill s.world) (sym same) (c.turn.ensures.still c.if-not-turn.true))

pub loop-left-smaller : goal.loop-left-smaller
loop-left-smaller g c =
    smaller c.loop-left.left c.left_after-left.result c.is_calm.result c.loop-left.self c.turn.new.self (omega (arith, c.loop-left-test.true)) c.turn.ensures.steady (c.turn.ensures.does c.if-not-turn.false)
    c.is_calm.ensures.calm c.left_after-left.ensures

pub loop-left-preserved : goal.loop-left-preserved
loop-left-preserved g c = record {
  leads = one_small c.args.self.now c.loop-left.self c.turn.new.self c.loop-left.invariant.leads (c.turn.ensures.does c.if-not-turn.false);
  left = none_counted c.loop-left.left c.left_after-left.result 1099511627776 c.is_calm.result c.loop-left.self c.turn.new.self c.loop-left.invariant.left (c.turn.ensures.does c.if-not-turn.false)
      c.is_calm.ensures.calm c.left_after-left.ensures;
  counted = turned c.loop-left.left c.left_after-left.result c.is_calm.result c.args.self.now c.loop-left.self c.turn.new.self (omega (arith, c.loop-left-test.true)) c.loop-left.invariant.few
      c.loop-left.invariant.counted c.turn.ensures.counted c.is_calm.ensures.calm c.left_after-left.ensures;
  idle = λ still. absurd (c.turn.ensures.progresses c.if-not-turn.false (subst (λ (s : Seen). IsStill s.world) (sym (c.loop-left.invariant.idle still)) still));
  few = left_few c.loop-left.left c.left_after-left.result c.is_calm.result c.loop-left.invariant.few c.left_after-left.ensures;
}

pub returns-then-not-turn-clause-calm : goal.returns-then-not-turn-clause-calm
returns-then-not-turn-clause-calm g c =
    settled_calm c.loop-left.left c.args.self.now c.turn.new.self
    (subst (Counted (12312 * (1099511627776 - c.loop-left.left)) c.args.self.now) (sym (c.turn.ensures.same c.if-not-turn.true)) c.loop-left.invariant.counted)

pub returns-clause-calm : goal.returns-clause-calm
returns-clause-calm g c = settled_calm c.loop-left.left c.args.self.now c.loop-left.self c.loop-left.invariant.counted

pub returns-then-not-turn-clause-leads : goal.returns-then-not-turn-clause-leads
returns-then-not-turn-clause-leads g c = subst (LeadsSmall c.args.self.now) (sym (c.turn.ensures.same c.if-not-turn.true)) c.loop-left.invariant.leads
