use Rattle.ftp_client_model.proofs.SentLemmas.{steps_have_lines, logins_have_lines}
use Rattle.ftp_client_model.proofs.laws.commands_have_lines.Goals as goal

pub returns : goal.returns
returns c = record { steps = steps_have_lines; login = logins_have_lines }
