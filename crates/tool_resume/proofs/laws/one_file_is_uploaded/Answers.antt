use Rattle.tool_resume.proofs.StepLemmas.{one_upload_stays}
use Rattle.tool_resume.proofs.laws.one_file_is_uploaded.Goals as goal

pub returns : goal.returns
returns c = one_upload_stays
