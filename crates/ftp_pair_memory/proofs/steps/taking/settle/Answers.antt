use Rattle.std.proofs.Common.{arith}
use Rattle.ftp_pair_memory.proofs.steps.Ending.{few_with, going_none, going_with, silent_after, spent_after, stopped_after}
use Rattle.ftp_pair_memory.proofs.steps.Gathering.{rounds_on, took_none, took_then}
use Rattle.ftp_pair_memory.specs.declared.steps.turn_ending.Course.TheVariants.{Over}
use Rattle.ftp_pair_memory.proofs.steps.taking.settle.Goals as goal

pub loop-made-init : goal.loop-made-init
loop-made-init g c = record { took = took_none _; going = going_none _; few = omega arith }

pub returns-in-Over-clause-settled : goal.returns-in-Over-clause-settled
returns-in-Over-clause-settled g c = rounds_on (Over c.in-Over.answer) _ _ _ (rw c.in-Over.is at c.round.ensures.took) c.loop-made.invariant.took

pub returns-then-silent-ge-SILENT_ROUNDS-clause-none : goal.returns-then-silent-ge-SILENT_ROUNDS-clause-none
returns-then-silent-ge-SILENT_ROUNDS-clause-none g c =
    silent_after c.loop-made.silent _ _ _ _ c.loop-made.invariant.going (rw c.in-On.is at c.round.ensures.turned) (omega (arith, c.loop-made.invariant.few))

pub returns-in-Off-clause-none : goal.returns-in-Off-clause-none
returns-in-Off-clause-none g c = stopped_after _ _ _ _ _ _ c.loop-made.invariant.going (rw c.in-Off.is at c.round.ensures.turned)

pub loop-made-preserved : goal.loop-made-preserved
loop-made-preserved g c = record {
  took = took_then _ _ _ (rw c.in-On.is at c.round.ensures.took) c.loop-made.invariant.took;
  going = going_with c.is_empty.result c.loop-made.silent c.silent_with-silent.result c.loop-made.made _ _ _ _ c.loop-made.invariant.going
      (rw c.in-On.is at c.round.ensures.turned) (omega arith) c.is_empty.ensures c.silent_with-silent.ensures.more c.silent_with-silent.ensures.none;
  few = few_with c.is_empty.result c.loop-made.silent c.silent_with-silent.result (omega arith) c.silent_with-silent.ensures.more c.silent_with-silent.ensures.none;
}

pub returns-clause-none : goal.returns-clause-none
returns-clause-none g c = spent_after c.loop-made.silent _ _ _ c.loop-made.invariant.going (omega arith)
