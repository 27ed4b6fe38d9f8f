use Rattle.laws_world.proofs.WorldRows.{cut_upload}
use Rattle.laws_world.proofs.rows.cut_upload.Goals as goal

pub returns : goal.returns
returns c = cut_upload
