use Rattle.ftp_server_model.proofs.ServerBounds.{server_lowers}
use Rattle.ftp_server_model.proofs.laws.comes_to_rest.Goals as goal

pub returns : goal.returns
returns c = server_lowers
