use Rattle.tool_job.proofs.StatusLemmas.{none_worse}
use Rattle.tool_job.proofs.queue.laws.none_is_worse.Goals as goal

pub returns : goal.returns
returns c = none_worse
