use Rattle.ftp_server_model.proofs.CommandsInFlight.{in_pieces, line_is_heard, command_is_heard, answer_is_dropped_here, line_leaves_ear, row_is_heard}
use Rattle.ftp_command.proofs.CarriedLemmas.{carried}
use Rattle.ftp_server_model.proofs.laws.commands_in_flight.Goals as goal

pub returns-clause-pieces : goal.returns-clause-pieces
returns-clause-pieces c = in_pieces

pub returns-clause-line : goal.returns-clause-line
returns-clause-line c = line_is_heard

pub returns-clause-stated : goal.returns-clause-stated
returns-clause-stated c = carried

pub returns-clause-command : goal.returns-clause-command
returns-clause-command c = command_is_heard

pub returns-clause-answer : goal.returns-clause-answer
returns-clause-answer c = answer_is_dropped_here

pub returns-clause-ear : goal.returns-clause-ear
returns-clause-ear c = line_leaves_ear

pub returns-clause-row : goal.returns-clause-row
returns-clause-row c = row_is_heard
