use Rattle.tool_script.proofs.ReadingLemmas.{kept_then}
use Rattle.tool_script.proofs.reading.read_some.Goals as goal

pub returns-in-Ok-clause-ok : goal.returns-in-Ok-clause-ok
returns-in-Ok-clause-ok g c = kept_then _ _ _ _ c.loop.invariant c.in-Ok.ensures.bytes.0
