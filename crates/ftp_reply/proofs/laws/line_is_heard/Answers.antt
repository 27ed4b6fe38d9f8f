use Rattle.ftp_reply.proofs.HeardLemmas.{bad_line, line_is_heard, passing_line, says_line}
use Rattle.ftp_reply.proofs.laws.line_is_heard.Goals as goal

pub returns-clause-right : goal.returns-clause-right
returns-clause-right c = line_is_heard

pub returns-clause-says : goal.returns-clause-says
returns-clause-says c = says_line

pub returns-clause-bad_code : goal.returns-clause-bad_code
returns-clause-bad_code c = bad_line

pub returns-clause-too_many : goal.returns-clause-too_many
returns-clause-too_many c = passing_line
