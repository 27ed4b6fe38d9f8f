use Rattle.ftp_server_model.proofs.LinesDecided.{reading_exists}
use Rattle.ftp_server_model.proofs.ReadingLemmas.{one_reading, reads_stated}
use Rattle.ftp_server_model.proofs.laws.reading.Goals as goal

pub returns-clause-exists : goal.returns-clause-exists
returns-clause-exists c = reading_exists

pub returns-clause-one : goal.returns-clause-one
returns-clause-one c = one_reading

pub returns-clause-stated : goal.returns-clause-stated
returns-clause-stated c = reads_stated
