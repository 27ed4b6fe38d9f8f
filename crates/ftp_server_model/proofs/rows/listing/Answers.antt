use Rattle.ftp_server_model.proofs.ServerRows.{listing}
use Rattle.ftp_server_model.proofs.rows.listing.Goals as goal

pub returns : goal.returns
returns c = listing
