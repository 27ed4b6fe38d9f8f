use Rattle.ftp_nvt.proofs.FoldLemmas.{ear_gives_events}
use Rattle.ftp_nvt.proofs.laws.fold_gives_events.Goals as goal

pub returns : goal.returns
returns c = ear_gives_events
