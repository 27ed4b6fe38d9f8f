use Rattle.ftp_direct.proofs.BelowLemmas.{parts_are_apart}
use Rattle.ftp_direct.proofs.laws.parts_are_apart.Goals as goal

pub returns : goal.returns
returns c = parts_are_apart
