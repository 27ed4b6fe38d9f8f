use Rattle.ftp_repr.proofs.ContentLemmas.{content_front}
use Rattle.ftp_repr.proofs.laws.front.Goals as goal

pub returns : goal.returns
returns c = record { front = content_front }
