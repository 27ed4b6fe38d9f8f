use Rattle.laws_world.proofs.WorldRows.{whole_download}
use Rattle.laws_world.proofs.rows.whole_download.Goals as goal

pub returns : goal.returns
returns c = whole_download
