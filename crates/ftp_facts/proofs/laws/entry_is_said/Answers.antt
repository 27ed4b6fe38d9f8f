use Rattle.ftp_facts.proofs.ListedLemmas.{entry_says, says_entry}
use Rattle.ftp_facts.proofs.laws.entry_is_said.Goals as goal

pub returns : goal.returns
returns c = λ line entry. (entry_says line entry, says_entry line entry)
