use Rattle.std.proofs.Common.{refl, subst, sym}
use Rattle.tool_get_put.specs.Running.{DoesOrders, result_by}
use Rattle.tool_get_put.proofs.HeardLemmas.{orders_done}
use Rattle.tool_get_put.proofs.running.run_orders.Goals as goal

pub returns : goal.returns
returns g c =
    let contents = g.W.Write.contents in
    let hears = g.R.Converses.hears c.args.rt.now 1 in
    let orders = c.args.orders in
    let done = c.converse-done in
    subst (λ said. DoesOrders hears orders.items (contents c.args.out) (contents c.into_out.result) said) (sym c.result_by.ensures)
    (subst (λ out. DoesOrders hears orders.items (contents c.args.out) (contents out) (result_by done.result c.has_failed.result)) (sym c.into_out.ensures)
    (orders_done (λ all. contents all.out) (λ all. all.orders) hears orders done.result c.has_failed.result _ done.new.play refl done.ensures))
