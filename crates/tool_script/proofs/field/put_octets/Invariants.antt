use Rattle.std.proofs.Common.{◌≡◌, ◌++◌, flat_map, length}
use Rattle.tool_script.specs.Field.{written}
use Rattle.tool_script.proofs.field.put_octets.Given as goal

-- what is put, and what the rest is written as, are what all octets are written as
abbrev pub invariant-loop-rest : goal.invariant-loop-rest
invariant-loop-rest g l = l.out.items ++ flat_map written l.rest ≡ l.fn.out.items ++ flat_map written l.octets

abbrev pub decreases-loop-rest : goal.decreases-loop-rest
decreases-loop-rest g l = length l.rest
