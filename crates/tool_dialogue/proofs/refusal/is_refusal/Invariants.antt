use Rattle.std.proofs.Common.{◌≡◌, true, drop}
use Rattle.tool_dialogue.specs.Dialogue.{has_refusal_line}
use Rattle.tool_dialogue.proofs.refusal.is_refusal.Given as goal

abbrev pub invariant-loop-octet : goal.invariant-loop-octet
invariant-loop-octet l = has_refusal_line l.begins (drop l.octet-index l.octets) ≡ has_refusal_line true l.octets
