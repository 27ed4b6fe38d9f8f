use Rattle.ftp_repr.proofs.SkipLemmas.{place_once, skips_once, within_stays, inside_stays, skips_on}
use Rattle.ftp_repr.proofs.laws.places.Goals as goal

pub returns : goal.returns
returns c = record { one = place_once; answer = skips_once; within = within_stays; inside = inside_stays; left = skips_on }
