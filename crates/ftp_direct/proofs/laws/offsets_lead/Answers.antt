use Rattle.ftp_direct.proofs.PlaceLemmas.{offsets_lead}
use Rattle.ftp_direct.proofs.laws.offsets_lead.Goals as goal

pub returns : goal.returns
returns c = offsets_lead
