use Rattle.std.proofs.Common.{◌∙◌, ◌++◌, [], ◌∷◌, refl, sym, ap, subst, rules, append-nil}
use Rattle.std.specs.Vec.Iter.{into_iter_items}
use Rattle.std.specs.Io.KnownBytes.{Appends}
use Rattle.tool_terminal.specs.Status.{worse}
use Rattle.tool_terminal.specs.declared.status.Status.TheVariants.{Done}
use Rattle.tool_session.specs.Talking.{SessionExchange}
use Rattle.tool_get_put.specs.Running.{request_of}
use Rattle.tool_get_put.proofs.HeardLemmas.{all_asked, appends_none, appends_then, asked_next, exchanged_more, front_asked, reports_more, taken_front, worst_more}
use Rattle.tool_get_put.proofs.running.do_all.Goals as goal

pub loop-order-init : goal.loop-order-init
loop-order-init g c = ([], refl, refl, appends_none (g.W.Write.contents c.args.out.now), refl)

pub returns-in_err-do_one : goal.returns-in_err-do_one
returns-in_err-do_one g c =
    let i = c.loop-order.invariant in
    let one : SessionExchange = (request_of c.in-Some.order, c.do_one.ensures.0) in (
      i.0 ++ one ∷ [],
      exchanged_more g.S.ClientSession.answers c.args.slot.now i.0 c.loop-order.slot one c.do_one.new.slot i.1 c.do_one.ensures.1,
      (
        front_asked c.args.orders.items c.loop-order.yielded (into_iter_items c.loop-order.order-iterator) (into_iter_items c.next.new.self) c.in-Some.order i.0 one
            (sym c.into_iter-order-iterator.ensures.into_iter_gives.0 ∙ taken_front c.into_iter-order-iterator.result c.loop-order.yielded c.loop-order.order-iterator c.loop-order.yielded_by)
            c.in-Some.ensures.steps.0 i.2 refl,
        search rules,
      ),
    )

pub loop-order-preserved : goal.loop-order-preserved
loop-order-preserved g c =
    let i = c.loop-order.invariant in
    let e = c.in_ok-do_one.ensures in
    let one : SessionExchange = (request_of c.in-Some.order, e.0) in
    let contents = g.W.Write.contents in (
      i.0 ++ one ∷ [],
      exchanged_more g.S.ClientSession.answers c.args.slot.now i.0 c.loop-order.slot one c.do_one.new.slot i.1 e.1,
      asked_next c.loop-order.yielded c.in-Some.order i.0 one i.2 refl,
      subst (λ all. Appends (contents c.args.out.now) (contents c.do_one.new.out) all) (sym (reports_more i.0 one))
          (appends_then (contents c.args.out.now) (contents c.loop-order.out) (contents c.do_one.new.out) _ _ i.3 e.2),
      c.worse-worst.ensures ∙ ap (λ w. worse w c.in_ok-do_one.field-0) i.4 ∙ ap (worse _) e.3 ∙ sym (worst_more Done i.0 one),
    )

pub returns : goal.returns
returns g c =
    let i = c.loop-order.invariant in
    let all = all_asked c.args.orders.items c.loop-order.yielded (into_iter_items c.loop-order.order-iterator) i.0
    (sym c.into_iter-order-iterator.ensures.into_iter_gives.0 ∙ taken_front c.into_iter-order-iterator.result c.loop-order.yielded c.loop-order.order-iterator c.loop-order.yielded_by)
    (sym c.loop-order.order-iterator.rest.ok.0 ∙ c.in-None.ensures.steps.0) i.2 in
    (i.0, i.1, (([], sym all ∙ sym (append-nil _)), (all, i.3, i.4)))
