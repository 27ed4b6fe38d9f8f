use Rattle.ftp_nvt.proofs.CutLemmas.{rest-nil}
use Rattle.ftp_nvt.proofs.line.LineBuffer.new.Goals as goal

pub returns-clause-read : goal.returns-clause-read
returns-clause-read g c = record { stands = rest-nil }
