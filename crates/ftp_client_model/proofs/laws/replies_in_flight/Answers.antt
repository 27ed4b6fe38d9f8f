use Rattle.ftp_client_model.proofs.RepliesInFlight.{in_pieces, reply_is_heard, fronts_are_alike, answer_is_dropped_here, row_is_heard}
use Rattle.ftp_client_model.proofs.RestLemmas.{answered_at_rest}
use Rattle.ftp_client_model.proofs.laws.replies_in_flight.Goals as goal

pub returns-clause-pieces : goal.returns-clause-pieces
returns-clause-pieces c = in_pieces

pub returns-clause-reply : goal.returns-clause-reply
returns-clause-reply c = reply_is_heard

pub returns-clause-fronts : goal.returns-clause-fronts
returns-clause-fronts c = fronts_are_alike

pub returns-clause-answer : goal.returns-clause-answer
returns-clause-answer c = answer_is_dropped_here

pub returns-clause-rest : goal.returns-clause-rest
returns-clause-rest c = answered_at_rest

pub returns-clause-row : goal.returns-clause-row
returns-clause-row c = row_is_heard
