use Rattle.std.proofs.Common.{◌≡◌, ◌+◌, drop, map}
use Rattle.tool_script.specs.Script.{orders_behind, orders_value}
use Rattle.tool_script.proofs.script.put_orders.Given as goal

-- the line's number, and that the orders so far and those of the rest are those of all lines
abbrev pub invariant-loop-line : goal.invariant-loop-line
invariant-loop-line g l = record {
  at : l.number ≡ l.line-index + 2;
  same : orders_behind l.orders.items (orders_value l.number (map (λ line. line.now) (drop l.line-index l.lines)))
      ≡ orders_behind l.fn.orders.items (orders_value 2 (map (λ line. line.now) l.lines));
}
