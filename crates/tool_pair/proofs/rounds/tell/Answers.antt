use Rattle.tool_pair.proofs.Leading.{end_leads}
use Rattle.tool_pair.proofs.rounds.tell.Goals as goal

pub returns : goal.returns
returns g c = end_leads c.args.queue c.step.result c.args.world.now c.step.new.self c.step.ensures.does
