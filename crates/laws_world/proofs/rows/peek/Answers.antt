use Rattle.laws_world.proofs.WorldRows.{peek}
use Rattle.laws_world.proofs.rows.peek.Goals as goal

pub returns : goal.returns
returns c = peek
