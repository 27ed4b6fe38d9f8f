use Rattle.tool_resume.proofs.StepLemmas.{no_upload_follows}
use Rattle.tool_resume.proofs.laws.uploads_end.Goals as goal

pub returns : goal.returns
returns c = no_upload_follows
