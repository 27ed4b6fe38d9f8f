use Rattle.std.proofs.Common.{refl, ap, sym, ◌∙◌}
use Rattle.std.specs.Prelude.{is_some}
use Rattle.ftp_client_model.specs.Calls.{handed_back, is_busy}
use Rattle.ftp_pair_events.proofs.events.Beginning.{handed_some}
use Rattle.ftp_pair_events.proofs.events.Keeping.{held, near_kept}
use Rattle.ftp_pair_events.proofs.events.parts.Parts.start.Goals as goal

pub returns-clause-counted : goal.returns-clause-counted
returns-clause-counted g c =
    near_kept c.refusals-refusals.result c.refusals.result c.stays-self.ensures.fits c.refusals-refusals.ensures c.refusals.ensures c.begin.ensures.counted refl c.stays-self.ensures.is

pub returns-then-is_some-clause-counted : goal.returns-then-is_some-clause-counted
returns-then-is_some-clause-counted g c =
    let busy = is_busy (g.N.Near.client c.args.self.now.near).view in
    let back = ap is_some (ap (handed_back busy) (sym c.requires.1.1.1.1.1.1) ∙ sym c.begin.ensures.left) ∙ sym c.is_some.ensures ∙ c.if-is_some.true in
    held 3 (c.begin.ensures.busy (handed_some busy g.op back)).1 refl
