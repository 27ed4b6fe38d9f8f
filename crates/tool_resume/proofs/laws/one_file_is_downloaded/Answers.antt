use Rattle.tool_resume.proofs.StepLemmas.{one_file_stays}
use Rattle.tool_resume.proofs.laws.one_file_is_downloaded.Goals as goal

pub returns : goal.returns
returns c = one_file_stays
