use Rattle.std.proofs.Common.{◌∙◌, ◌<◌, Some, ap, refl, subst, sym}
use Rattle.tool_scheduler.proofs.SharingLemmas.{freed, within_get}
use Rattle.tool_scheduler.proofs.table.Table.free.Goals as goal

pub returns-clause-freed : goal.returns-clause-freed
returns-clause-freed g c =
    freed c.args.place c.take.result c.take.new.self c.args.self.now.slots.items
    (within_get c.args.self.now.slots.items c.args.place c.in_ok-get_mut.field-0.now (subst (λ count. c.args.place < count) c.args.self.now.slots.ok.0 (c.in_ok-get_mut.ensures.variant.0 refl))
    ∙ ap Some (sym c.in_ok-get_mut.ensures.value ∙ sym c.take.ensures.value))
    c.take.ensures.after
