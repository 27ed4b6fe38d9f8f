use Rattle.ftp_pieces.proofs.MachineLemmas.{after-append, gives-append}
use Rattle.ftp_pieces.proofs.pieces.Goals as goal

pub returns-clause-state : goal.returns-clause-state
returns-clause-state g c = after-append

pub returns-clause-given : goal.returns-clause-given
returns-clause-given g c = gives-append
