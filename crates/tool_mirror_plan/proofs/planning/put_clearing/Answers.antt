use Rattle.std.proofs.Common.{◌∙◌}
use Rattle.tool_mirror_plan.specs.Actions.{removal_for}
use Rattle.tool_mirror_plan.specs.Plan.{clearing}
use Rattle.tool_listing.proofs.entries.LinesLemmas.{one_written}
use Rattle.tool_mirror_plan.proofs.PlanLemmas.{one_planned}
use Rattle.tool_mirror_plan.proofs.planning.put_clearing.Goals as goal

pub loop-item-preserved : goal.loop-item-preserved
loop-item-preserved c =
    let old = c.loop-item.planned.items in
    let item = c.item-item.result in
    one_written (clearing c.args.rules c.args.source.now) c.args.target.now c.loop-item.item-index item item c.args.planned.now.items old
    c.put_steps.new.planned.items c.loop-item-test.true c.item-item.is c.loop-item.invariant
    (one_planned (removal_for c.args.rules item) c.args.source.now item c.as_slice-name.result.now c.stands.result c.removal_for-actions.result old
    c.put_steps.new.planned.items c.as_slice-name.ensures (c.stands.ensures ∙ c.in_ok-kinds.ensures c.as_slice-name.result.now) c.removal_for-actions.ensures c.in_ok-put_steps.ensures)
