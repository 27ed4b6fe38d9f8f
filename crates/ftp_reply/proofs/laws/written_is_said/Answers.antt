use Rattle.ftp_reply.proofs.LawLemmas.{written_says}
use Rattle.ftp_reply.proofs.laws.written_is_said.Goals as goal

pub returns : goal.returns
returns c = written_says
