use Rattle.laws_server.proofs.one.LineTurns.{lines_go_beside}
use Rattle.laws_server.proofs.one.laws.lines_go_beside.Goals as goal

pub returns : goal.returns
returns c = lines_go_beside
