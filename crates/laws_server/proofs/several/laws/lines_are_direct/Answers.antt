use Rattle.laws_server.proofs.several.EndLemmas.{ends_direct}
use Rattle.laws_server.proofs.several.LineLemmas.{lines_are_direct}
use Rattle.laws_server.proofs.several.OtherLemmas.{others_leave}
use Rattle.laws_server.proofs.several.laws.lines_are_direct.Goals as goal

pub returns : goal.returns
returns c = record { lines = lines_are_direct; others = others_leave; ends = ends_direct }
