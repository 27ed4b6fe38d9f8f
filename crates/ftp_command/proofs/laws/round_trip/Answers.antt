use Rattle.ftp_command.specs.Line.{line_of}
use Rattle.ftp_command.proofs.CarriedLemmas.{carried}
use Rattle.ftp_command.proofs.LawLemmas.{one_command}
use Rattle.ftp_command.proofs.RoundTripLemmas.{round_trip}
use Rattle.ftp_command.proofs.laws.round_trip.Goals as goal

pub returns-clause-carried : goal.returns-clause-carried
returns-clause-carried c = carried

pub returns-clause-says : goal.returns-clause-says
returns-clause-says c = round_trip

pub returns-clause-alone : goal.returns-clause-alone
returns-clause-alone c = λ v w typed stated says. one_command (line_of v) w v says (round_trip v typed stated)
