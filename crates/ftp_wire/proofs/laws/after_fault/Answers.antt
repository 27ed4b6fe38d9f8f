use Rattle.ftp_wire.proofs.HearLemmas.{stays}
use Rattle.ftp_wire.proofs.laws.after_fault.Goals as goal

pub returns : goal.returns
returns c = stays
