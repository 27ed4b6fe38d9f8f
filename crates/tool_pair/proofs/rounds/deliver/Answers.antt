use Rattle.tool_pair.proofs.Leading.{delivery_told, none_delivered}
use Rattle.tool_pair.proofs.rounds.deliver.Goals as goal

pub returns-then-not-branch : goal.returns-then-not-branch
returns-then-not-branch g c =
    none_delivered c.args.queue c.args.count c.in_ok-carry.field-0 c.args.world.now c.carry.new.world c.args.transcript.now c.if-not-branch.true c.in_ok-carry.ensures

pub returns : goal.returns
returns g c =
    delivery_told c.args.queue c.args.count c.in_ok-carry.field-0 c.args.world.now c.carry.new.world c.taken-taken.result.now c.args.transcript.now c.take.new.self
    c.if-not-branch.false c.in_ok-carry.ensures c.taken-taken.ensures c.in_ok-take.ensures.tells
