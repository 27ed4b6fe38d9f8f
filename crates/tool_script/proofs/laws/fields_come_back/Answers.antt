use Rattle.tool_script.proofs.WrittenLemmas.{field_back}
use Rattle.tool_script.proofs.laws.fields_come_back.Goals as goal

pub returns : goal.returns
returns c = field_back
