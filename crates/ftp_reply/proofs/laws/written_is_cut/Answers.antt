use Rattle.ftp_reply.proofs.CutLemmas.{written_cut}
use Rattle.ftp_reply.proofs.laws.written_is_cut.Goals as goal

pub returns : goal.returns
returns c = written_cut
