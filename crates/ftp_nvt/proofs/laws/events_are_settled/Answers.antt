use Rattle.ftp_nvt.proofs.Theorems.{lines_in-events, answers_in-events}
use Rattle.ftp_nvt.proofs.LineLemmas.{events_after, events-append}
use Rattle.ftp_nvt.proofs.laws.events_are_settled.Goals as goal

pub returns-clause-lines : goal.returns-clause-lines
returns-clause-lines c = lines_in-events

pub returns-clause-answers : goal.returns-clause-answers
returns-clause-answers c = answers_in-events

pub returns-clause-front : goal.returns-clause-front
returns-clause-front c = λ limit front back. (events_after limit front back, events-append limit front back)
