use Rattle.std.proofs.Common.{refl, sym}
use Rattle.ftp_pair_events.proofs.events.Keeping.{near_kept}
use Rattle.ftp_pair_events.proofs.events.parts.Parts.fault_near.Goals as goal

pub returns-clause-counted : goal.returns-clause-counted
returns-clause-counted g c =
    near_kept c.refusals-refusals.result c.refusals.result c.stays-self.ensures.fits c.refusals-refusals.ensures c.refusals.ensures c.data_fault.ensures.counted refl c.stays-self.ensures.is
