use Rattle.ftp_facts.proofs.MomentLemmas.{WritesMoment-says}
use Rattle.ftp_facts.proofs.MomentValueLemmas.{says_moment}
use Rattle.ftp_facts.proofs.laws.written_is_said.Goals as goal

pub returns : goal.returns
returns c =
    let text = c.args.text.now in
    let seconds = c.args.moment.seconds in
    says_moment text seconds (WritesMoment-says text seconds c.requires)
