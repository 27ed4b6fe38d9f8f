use Rattle.ftp_server_model.proofs.ReadingLemmas.{never_fails}
use Rattle.ftp_server_model.proofs.laws.without_login.Goals as goal

pub returns : goal.returns
returns c = never_fails
