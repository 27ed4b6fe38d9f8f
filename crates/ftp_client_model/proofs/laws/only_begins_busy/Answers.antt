use Rattle.ftp_client_model.proofs.BusyLemmas.{only_begins_busy}
use Rattle.ftp_client_model.proofs.laws.only_begins_busy.Goals as goal

pub returns : goal.returns
returns c = only_begins_busy
