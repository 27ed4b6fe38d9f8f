use Rattle.std.proofs.Common.{[]}
use Rattle.tool_pair.proofs.Leading.{telling_on}
use Rattle.tool_pair.proofs.orders.until_finished.Goals as goal

pub returns-then-not-branch : goal.returns-then-not-branch
returns-then-not-branch g c =
    telling_on [] c.args.world.now c.loop.world c.round.new.world c.args.transcript.now c.loop.transcript c.round.new.transcript c.loop.invariant
    c.in_ok-round.ensures

pub loop-preserved : goal.loop-preserved
loop-preserved g c =
    telling_on [] c.args.world.now c.loop.world c.round.new.world c.args.transcript.now c.loop.transcript c.round.new.transcript c.loop.invariant
    c.in_ok-round.ensures
