use Rattle.tool_pair.proofs.Leading.{four}
use Rattle.tool_pair.proofs.rounds.end.Goals as goal

pub returns-then-up : goal.returns-then-up
returns-then-up g c =
    four c.args.world.now c.tell.new.world c.tell-2.new.world c.tell-3.new.world c.tell-4.new.world c.in_ok-left.ensures c.in_ok-parted.ensures
    c.in_ok-up.ensures c.in_ok-down.ensures

pub returns-else-up : goal.returns-else-up
returns-else-up g c =
    four c.args.world.now c.tell.new.world c.tell-2.new.world c.tell-3.new.world c.tell-4.new.world c.in_ok-left.ensures c.in_ok-parted.ensures
    c.in_ok-up.ensures c.in_ok-down.ensures
