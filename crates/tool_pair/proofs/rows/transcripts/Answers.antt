use Rattle.std.proofs.Common.{refl}
use Rattle.ftp_nvt.specs.Lines.{cut}
use Rattle.tool_pair.proofs.rows.transcripts.Goals as goal

pub returns : goal.returns
unfolding cut
returns c = refl
