use Rattle.ftp_client_model.proofs.ClientCalls.{hearing_lowers, receiving_lowers, calls_lower}
use Rattle.ftp_client_model.proofs.ClientGiving.{giving_pays, want_lowers}
use Rattle.ftp_client_model.proofs.laws.comes_to_rest.Goals as goal

pub returns-clause-hearing : goal.returns-clause-hearing
returns-clause-hearing c = hearing_lowers

pub returns-clause-receiving : goal.returns-clause-receiving
returns-clause-receiving c = receiving_lowers

pub returns-clause-events : goal.returns-clause-events
returns-clause-events c = calls_lower

pub returns-clause-giving : goal.returns-clause-giving
returns-clause-giving c = giving_pays

pub returns-clause-want : goal.returns-clause-want
returns-clause-want c = want_lowers
