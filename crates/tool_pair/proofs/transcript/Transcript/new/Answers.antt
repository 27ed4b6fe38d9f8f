use Rattle.tool_pair.proofs.Telling.{told_none}
use Rattle.tool_pair.proofs.transcript.Transcript.new.Goals as goal

pub returns-clause-told : goal.returns-clause-told
returns-clause-told g c = told_none _ c.new.ensures.items c.new-2.ensures.items c.new-3.ensures.items
