use Rattle.tool_serve.proofs.ServedLemmas.{each_served}
use Rattle.tool_serve.proofs.laws.each_served_is_one_drive.Goals as goal

pub returns : goal.returns
returns g c = each_served
