use Rattle.tool_session.proofs.AgainLemmas.{again_in_pieces}
use Rattle.tool_session.proofs.rows.octets_in_pieces.Goals as goal

pub returns : goal.returns
returns c = again_in_pieces
