use Rattle.std.proofs.Common.{refl, arith}
use Rattle.ftp_pair_events.proofs.events.Keeping.{near_kept, after}
use Rattle.ftp_pair_events.proofs.events.parts.Parts.tell_data_to_client.Goals as goal

pub returns-clause-counted : goal.returns-clause-counted
returns-clause-counted g c =
    after c.lose_link.ensures.counted (near_kept c.refusals-refusals.result c.refusals.result c.stays-self.ensures.fits c.refusals-refusals.ensures c.refusals.ensures c.data_end.ensures.counted refl c.stays-self.ensures.is) (omega arith)
