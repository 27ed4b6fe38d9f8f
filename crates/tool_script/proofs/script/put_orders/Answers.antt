use Rattle.std.proofs.Common.{◌∙◌, arith}
use Rattle.tool_script.proofs.ScriptLemmas.{line_read}
use Rattle.tool_script.proofs.script.put_orders.Goals as goal

pub loop-line-preserved : goal.loop-line-preserved
loop-line-preserved g c = record {
  at = omega (arith, c.loop-line.invariant.at);
  same =
      line_read (λ line. line.now) c.loop-line.orders.items c.put_order.new.orders.items c.args.lines.now c.loop-line.line-index c.loop-line.number _
      c.loop-line-test.true c.in-Ok.ensures
      ∙ c.loop-line.invariant.same;
}
