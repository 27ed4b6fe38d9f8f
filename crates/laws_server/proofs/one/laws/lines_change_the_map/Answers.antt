use Rattle.laws_server.proofs.one.LineTurns.{lines_change_the_map}
use Rattle.laws_server.proofs.one.laws.lines_change_the_map.Goals as goal

pub returns : goal.returns
returns c = lines_change_the_map
