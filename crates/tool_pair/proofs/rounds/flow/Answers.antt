use Rattle.std.proofs.Common.{[]}
use Rattle.tool_pair.proofs.Leading.{telling_on}
use Rattle.tool_pair.proofs.rounds.flow.Goals as goal

pub returns-in_default : goal.returns-in_default
returns-in_default g c =
    telling_on [] c.args.world.now c.loop.world c.deliver.new.world c.args.transcript.now c.loop.transcript c.deliver.new.transcript c.loop.invariant
    c.in_ok-taken.ensures

pub returns-then-taken-eq0 : goal.returns-then-taken-eq0
returns-then-taken-eq0 g c =
    telling_on [] c.args.world.now c.loop.world c.deliver.new.world c.args.transcript.now c.loop.transcript c.deliver.new.transcript c.loop.invariant
    c.in_ok-taken.ensures

pub loop-preserved : goal.loop-preserved
loop-preserved g c =
    telling_on [] c.args.world.now c.loop.world c.deliver.new.world c.args.transcript.now c.loop.transcript c.deliver.new.transcript c.loop.invariant
    c.in_ok-taken.ensures
