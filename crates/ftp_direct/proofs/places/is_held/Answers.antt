use Rattle.std.proofs.Common.{◌∙◌, sym, ap, refl}
use Rattle.std.specs.Option.{is_some}
use Rattle.ftp_direct.proofs.NodeLemmas.{held_absent, held_busy}
use Rattle.ftp_direct.proofs.places.is_held.Goals as goal

pub returns-then-is_some : goal.returns-then-is_some
returns-then-is_some g c =
    held_absent _ _ _ (ap is_some (sym c.absent_fault.ensures) ∙ sym c.is_some.ensures ∙ c.if-is_some.true) ∙ sym c.if-is_some.true

pub returns-else-is_some : goal.returns-else-is_some
returns-else-is_some g c =
    held_busy _ _ _ _ (ap is_some (sym c.absent_fault.ensures) ∙ sym c.is_some.ensures ∙ c.if-is_some.false) refl ∙ sym c.is_busy.ensures
