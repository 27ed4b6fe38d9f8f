use Rattle.std.proofs.Common.{◌∙◌, sym, ap}
use Rattle.tool_script.specs.Order.{order_from}
use Rattle.tool_pair.proofs.Leading.{next_leads, upload_leads}
use Rattle.tool_pair.proofs.orders.begin.Goals as goal

pub returns-in-Ok : goal.returns-in-Ok
returns-in-Ok g c =
    next_leads c.in-Ok.op c.args.moment.seconds c.args.order c.step.result c.args.world.now c.step.new.self
    (sym (ap order_from c.in-Ok.is) ∙ c.into_parts.ensures) c.args.moment.in_range c.step.ensures.does

pub returns-in-Err : goal.returns-in-Err
returns-in-Err g c =
    upload_leads c.in-Err.path c.in-Err.octets c.in-Err.how c.args.moment.seconds c.args.order c.step-in-Err.result c.args.world.now c.step-in-Err.new.self
    (sym (ap order_from c.in-Err.is) ∙ c.into_parts.ensures) c.args.moment.in_range c.step-in-Err.ensures.does
