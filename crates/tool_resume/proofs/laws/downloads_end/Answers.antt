use Rattle.tool_resume.proofs.StepLemmas.{no_download_follows}
use Rattle.tool_resume.proofs.laws.downloads_end.Goals as goal

pub returns : goal.returns
returns c = no_download_follows
