use Rattle.ftp_facts.proofs.NumberLemmas.{number_says, says_number}
use Rattle.ftp_reply.proofs.ExtendedLemmas.{port_says, says_port_of}
use Rattle.ftp_reply.proofs.MarkValueLemmas.{mark_says, says_mark}
use Rattle.ftp_reply.proofs.PassiveLemmas.{endpoint_says, says_endpoint}
use Rattle.ftp_reply.proofs.PathValueLemmas.{path_says, says_path, quoted_says, says_quoted}
use Rattle.ftp_reply.proofs.laws.values.Goals as goal

pub returns-clause-number : goal.returns-clause-number
returns-clause-number c = λ text value. (number_says text value, says_number text value)

pub returns-clause-endpoint : goal.returns-clause-endpoint
returns-clause-endpoint c = λ text value. (endpoint_says text value, says_endpoint text value)

pub returns-clause-port : goal.returns-clause-port
returns-clause-port c = λ text value. (port_says text value, says_port_of text value)

pub returns-clause-quoted : goal.returns-clause-quoted
returns-clause-quoted c = λ text value. (quoted_says text value, says_quoted text value)

pub returns-clause-path : goal.returns-clause-path
returns-clause-path c = λ text value. (path_says text value, says_path text value)

pub returns-clause-mark : goal.returns-clause-mark
returns-clause-mark c = λ text value. (mark_says text value, says_mark text value)
