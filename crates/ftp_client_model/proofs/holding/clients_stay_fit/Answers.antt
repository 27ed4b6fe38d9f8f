use Rattle.ftp_client_model.proofs.NearLemmas.{near_stays_fit}
use Rattle.ftp_client_model.proofs.holding.clients_stay_fit.Goals as goal

pub returns : goal.returns
returns c = near_stays_fit
