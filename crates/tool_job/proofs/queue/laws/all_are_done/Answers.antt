use Rattle.tool_job.proofs.StatusLemmas.{all_done}
use Rattle.tool_job.proofs.queue.laws.all_are_done.Goals as goal

pub returns : goal.returns
returns c = all_done
