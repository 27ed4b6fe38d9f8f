use Rattle.std.proofs.Common.{◌++◌, ◌∷◌, [], ◌∙◌, ap, sym, take}
use Rattle.std.proofs.lemmas.List.{take_more}
use Rattle.tool_mirror_plan.specs.Index.{earlier, kind_under}
use Rattle.tool_mirror_plan.specs.Plan.{stands}
use Rattle.tool_mirror_plan.proofs.IndexLemmas.{stands_more}
use Rattle.tool_mirror_plan.proofs.index.kinds_of.Goals as goal

pub loop-item-preserved : goal.loop-item-preserved
loop-item-preserved c = λ name.
    let items = c.args.items.now in
    let i = c.loop-item.item-index in
    let item = c.item-item.result in
    c.in_ok-put_first.ensures name
    ∙ ap (λ k. earlier k (kind_under name item)) (c.loop-item.invariant name)
    ∙ sym (stands_more (take i items) item name)
    ∙ ap (λ x. stands (take i items ++ x ∷ []) name) c.item-item.is
    ∙ ap (λ l. stands l name) (sym (take_more items i item c.loop-item-test.true))
