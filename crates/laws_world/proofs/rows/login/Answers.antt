use Rattle.laws_world.proofs.WorldRows.{login}
use Rattle.laws_world.proofs.rows.login.Goals as goal

pub returns : goal.returns
returns c = login
