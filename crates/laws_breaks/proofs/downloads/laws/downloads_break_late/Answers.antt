use Rattle.laws_breaks.proofs.downloads.Late.{breaks_late, hears_late}
use Rattle.laws_breaks.proofs.downloads.laws.downloads_break_late.Goals as goal

pub returns : goal.returns
returns c = record { octets = hears_late; broken = breaks_late }
