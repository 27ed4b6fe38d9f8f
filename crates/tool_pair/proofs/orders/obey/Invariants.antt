use Rattle.std.proofs.Common.{◌≡◌, length}
use Rattle.tool_pair.specs.Leading.{first_second, script_orders_at}
use Rattle.tool_pair.specs.Telling.{LeadsTelling}
use Rattle.tool_pair.proofs.orders.obey.Given as goal

-- as many orders as the number says have begun, and what they lead to
abbrev pub invariant-loop-order : goal.invariant-loop-order
invariant-loop-order g l = record {
  number : l.number ≡ length l.yielded;
  leads : LeadsTelling (script_orders_at first_second l.yielded) l.fn.world l.world l.fn.transcript l.transcript;
}
