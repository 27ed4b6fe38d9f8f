use Rattle.laws_breaks.proofs.downloads.Ending.{over_drives_agree}
use Rattle.laws_breaks.proofs.downloads.laws.over_drives_agree.Goals as goal

pub returns : goal.returns
returns c = over_drives_agree
