use Rattle.laws_breaks.proofs.uploads.Ending.{cut_drives_agree}
use Rattle.laws_breaks.proofs.uploads.laws.cut_drives_agree.Goals as goal

pub returns : goal.returns
returns c = cut_drives_agree
