use Rattle.std.proofs.Common.{◌≡◌, ◌++◌, take, flat_map}
use Rattle.tool_log.specs.Xferlog.{field_octet}
use Rattle.tool_log.proofs.xferlog.put_octets.Given as goal

abbrev pub invariant-loop-octet : goal.invariant-loop-octet
invariant-loop-octet l = l.out.items ≡ l.fn.out.items ++ flat_map field_octet (take l.octet-index l.text)
