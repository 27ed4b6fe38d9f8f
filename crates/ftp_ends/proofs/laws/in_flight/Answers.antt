use Rattle.ftp_ends.proofs.LineInFlight.{line_is_heard, answer_is_dropped}
use Rattle.ftp_ends.proofs.laws.in_flight.Goals as goal

pub returns-clause-line : goal.returns-clause-line
returns-clause-line c = line_is_heard

pub returns-clause-answer : goal.returns-clause-answer
returns-clause-answer c = answer_is_dropped
