use Rattle.tool_pair.proofs.Leading.{delivery_leads}
use Rattle.tool_pair.proofs.rounds.carry.Goals as goal

pub returns : goal.returns
returns g c = delivery_leads c.args.queue c.args.count c.step.result c.args.world.now c.step.new.self c.step.ensures.does
