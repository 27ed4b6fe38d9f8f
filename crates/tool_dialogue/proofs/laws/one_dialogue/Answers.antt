use Rattle.tool_dialogue.proofs.OnceLemmas.{converses_once}
use Rattle.tool_dialogue.proofs.laws.one_dialogue.Goals as goal

pub returns : goal.returns
returns c = converses_once
