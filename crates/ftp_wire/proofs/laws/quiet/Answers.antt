use Rattle.ftp_wire.proofs.HearLemmas.{hears_quiet, quiet-append}
use Rattle.ftp_wire.proofs.laws.quiet.Goals as goal

pub returns-clause-all : goal.returns-clause-all
returns-clause-all c = hears_quiet

pub returns-clause-joined : goal.returns-clause-joined
returns-clause-joined c = quiet-append
