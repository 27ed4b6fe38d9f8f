use Rattle.ftp_server_model.proofs.TurnLemmas.{read_can_be_heard, line_keeps}
use Rattle.ftp_server_model.proofs.laws.lines_keep_limits.Goals as goal

pub returns : goal.returns
returns c = record { heard = read_can_be_heard; made = line_keeps }
