use Rattle.ftp_endpoint.proofs.EndpointLemmas.{six_same}
use Rattle.ftp_endpoint.proofs.OnceLemmas.{no_other_protocol, port_same, same_extended}
use Rattle.ftp_endpoint.proofs.laws.endpoints_have_one_meaning.Goals as goal

pub returns-clause-six : goal.returns-clause-six
returns-clause-six c = six_same

pub returns-clause-port : goal.returns-clause-port
returns-clause-port c = port_same

pub returns-clause-extended : goal.returns-clause-extended
returns-clause-extended c = same_extended

pub returns-clause-protocol : goal.returns-clause-protocol
returns-clause-protocol c = no_other_protocol
