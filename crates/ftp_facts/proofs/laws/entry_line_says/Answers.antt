use Rattle.ftp_facts.proofs.ComesBackLemmas.{entry_line-says}
use Rattle.ftp_facts.proofs.laws.entry_line_says.Goals as goal

pub returns : goal.returns
returns g c = entry_line-says c.args.entry.now
