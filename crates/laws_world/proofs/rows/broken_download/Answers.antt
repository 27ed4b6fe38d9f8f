use Rattle.laws_world.proofs.WorldRows.{broken_download}
use Rattle.laws_world.proofs.rows.broken_download.Goals as goal

pub returns : goal.returns
returns c = broken_download
