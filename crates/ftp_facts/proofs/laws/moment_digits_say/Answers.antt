use Rattle.ftp_facts.specs.Moment.{moment_digits}
use Rattle.ftp_facts.proofs.MomentLemmas.{WritesMoment-says}
use Rattle.ftp_facts.proofs.MomentValueLemmas.{says_moment}
use Rattle.ftp_facts.proofs.DigitsLemmas.{moment_digits-write}
use Rattle.ftp_facts.proofs.laws.moment_digits_say.Goals as goal

pub returns : goal.returns
returns c =
    let m = c.args.moment in
    says_moment (moment_digits m.seconds) m.seconds (WritesMoment-says (moment_digits m.seconds) m.seconds (moment_digits-write m.seconds m.in_range))
