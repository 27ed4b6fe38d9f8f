use Rattle.std.proofs.Common.{rules, ◌∙◌, ◌+◌, sym, ap}
use Rattle.std.specs.Vec.Iter.{into_iter_items}
use Rattle.ftp_pair.proofs.Running.{taken_front}
use Rattle.tool_pair.specs.Leading.{first_second, script_orders_at}
use Rattle.tool_pair.specs.Telling.{LeadsTelling}
use Rattle.tool_pair.proofs.Leading.{all_lead, nothing_told_of, one_counted, order_leads, telling_on}
use Rattle.tool_pair.proofs.Reporting.{anyhow_ok, on_ok}
use Rattle.tool_pair.proofs.Resting.{rests}
use Rattle.tool_pair.proofs.orders.obey.Goals as goal

pub loop-order-init : goal.loop-order-init
loop-order-init g c = record { number = search rules; leads = nothing_told_of c.args.world.now c.args.transcript.now }

pub loop-order-preserved : goal.loop-order-preserved
loop-order-preserved g c =
    let moment = c.in_ok-moment_at.field-0 in
    record {
      number = one_counted c.loop-order.number c.saturating_add-number.result moment.seconds c.loop-order.yielded c.in-Some.order c.loop-order.invariant.number
          c.in_ok-moment_at.ensures moment.in_range c.saturating_add-number.ensures;
      leads = order_leads first_second moment.seconds c.loop-order.yielded c.in-Some.order c.args.world.now c.until_finished.new.world c.begin.new.world
          c.args.transcript.now c.until_finished.new.transcript
          (telling_on (script_orders_at first_second c.loop-order.yielded) c.args.world.now c.loop-order.world c.until_finished.new.world c.args.transcript.now
          c.loop-order.transcript c.until_finished.new.transcript c.loop-order.invariant.leads c.in_ok-until_finished.ensures)
          (c.in_ok-moment_at.ensures ∙ ap (λ n. first_second + n) c.loop-order.invariant.number) (c.in_ok-begin.ensures c.if-not-branch.false);
    }

pub returns-clause-leads : goal.returns-clause-leads
returns-clause-leads g c =
    let is = sym c.into_iter-order-iterator.ensures.into_iter_gives.0 ∙ taken_front c.into_iter-order-iterator.result c.loop-order.yielded c.loop-order.order-iterator c.loop-order.yielded_by in
    anyhow_ok c.at_rest.result (LeadsTelling (script_orders_at first_second c.args.orders.items) c.args.world.now c.until_still.new.world c.args.transcript.now c.until_still.new.transcript)
    (all_lead first_second c.args.orders.items c.loop-order.yielded (into_iter_items c.loop-order.order-iterator) c.args.world.now c.loop-order.world c.until_still.new.world
    c.args.transcript.now c.loop-order.transcript c.until_still.new.transcript is (sym c.loop-order.order-iterator.rest.ok.0 ∙ c.in-None.ensures.steps.0) c.loop-order.invariant.leads
    c.in_ok-until_still.ensures)

pub returns-clause-rests : goal.returns-clause-rests
returns-clause-rests g c =
    let is = sym c.into_iter-order-iterator.ensures.into_iter_gives.0 ∙ taken_front c.into_iter-order-iterator.result c.loop-order.yielded c.loop-order.order-iterator c.loop-order.yielded_by in
    let leads = all_lead first_second c.args.orders.items c.loop-order.yielded (into_iter_items c.loop-order.order-iterator) c.args.world.now c.loop-order.world c.until_still.new.world
    c.args.transcript.now c.loop-order.transcript c.until_still.new.transcript is (sym c.loop-order.order-iterator.rest.ok.0 ∙ c.in-None.ensures.steps.0) c.loop-order.invariant.leads
    c.in_ok-until_still.ensures in
    on_ok c.at_rest.result (λ quiet. rests (script_orders_at first_second c.args.orders.items) leads.0 c.args.world.now c.until_still.new.world leads.1 quiet) c.at_rest.ensures.quiet

pub returns-clause-each : goal.returns-clause-each
returns-clause-each g c = on_ok c.at_rest.result (λ each. each ∙ c.in_ok-wanted.ensures) c.at_rest.ensures.each
