use Rattle.std.proofs.Common.{inr, refl}
use Rattle.ftp_client.proofs.counted.Counted.shorten.Goals as goal

pub returns-clause-counted : goal.returns-clause-counted
returns-clause-counted g c = inr refl
