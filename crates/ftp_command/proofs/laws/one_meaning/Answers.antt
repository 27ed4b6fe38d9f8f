use Rattle.ftp_command.proofs.LawLemmas.{not_refused, one_command, one_fault}
use Rattle.ftp_command.proofs.VerbLemmas.{one_verb}
use Rattle.ftp_command.proofs.laws.one_meaning.Goals as goal

pub returns-clause-verb : goal.returns-clause-verb
returns-clause-verb c = one_verb

pub returns-clause-command : goal.returns-clause-command
returns-clause-command c = one_command

pub returns-clause-apart : goal.returns-clause-apart
returns-clause-apart c = not_refused

pub returns-clause-fault : goal.returns-clause-fault
returns-clause-fault c = one_fault
