use Rattle.std.proofs.Common.{◌≡◌, length}
use Rattle.tool_script.specs.Field.{Between, said_from, with_front}
use Rattle.tool_script.proofs.field.put_said.Given as goal

-- what was said and what the rest says are what the whole text says
abbrev pub invariant-loop-rest : goal.invariant-loop-rest
invariant-loop-rest g l = with_front l.out.items (said_from l.rest Between) ≡ with_front l.fn.out.items (said_from l.text Between)

abbrev pub decreases-loop-rest : goal.decreases-loop-rest
decreases-loop-rest g l = length l.rest
