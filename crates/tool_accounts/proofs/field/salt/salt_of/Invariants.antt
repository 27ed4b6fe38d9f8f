use Rattle.std.proofs.Common.{◌≡◌, length, take}
use Rattle.tool_accounts.specs.field.Salt.{salt_of}
use Rattle.tool_accounts.proofs.field.salt.salt_of.Given as goal

abbrev pub invariant-loop-octet : goal.invariant-loop-octet
invariant-loop-octet l = (length l.salt.items ≡ l.octet-index) × (l.salt.items ≡ salt_of (take l.octet-index l.octets))
