use Rattle.ftp_command.proofs.StatedLemmas.{stated}
use Rattle.ftp_command.proofs.laws.only_stated.Goals as goal

pub returns : goal.returns
returns c = stated
