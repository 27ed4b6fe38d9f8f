use Rattle.laws_server.proofs.one.LineTurns.{lines_log_in}
use Rattle.laws_server.proofs.one.laws.lines_log_in.Goals as goal

pub returns : goal.returns
returns c = lines_log_in
