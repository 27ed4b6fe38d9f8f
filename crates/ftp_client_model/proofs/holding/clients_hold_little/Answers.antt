use Rattle.ftp_client_model.proofs.Theorems.{calls_stay_fit, client_holds_little, fit_holds_little, start_is_fit}
use Rattle.ftp_client_model.proofs.holding.clients_hold_little.Goals as goal

pub returns : goal.returns
returns c = record { start = start_is_fit; calls = calls_stay_fit; held = fit_holds_little; always = client_holds_little }
