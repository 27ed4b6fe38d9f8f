use Rattle.ftp_pieces.proofs.MachineLemmas.{gives-front}
use Rattle.ftp_pieces.proofs.fronts.Goals as goal

pub returns : goal.returns
returns g c = gives-front
