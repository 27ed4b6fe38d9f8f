use Rattle.std.proofs.Common.{refl, arith}
use Rattle.ftp_pair_events.proofs.events.Keeping.{far_kept, after}
use Rattle.ftp_server_model.specs.Far.{counts_told}
use Rattle.ftp_pair_events.proofs.events.parts.Parts.far_closes.Goals as goal

pub returns-in-Opened-clause-counted : goal.returns-in-Opened-clause-counted
returns-in-Opened-clause-counted g c =
    far_kept (counts_told c.far_counts-counts.result) (counts_told c.far_counts.result) c.both_stay-self.ensures.fits.0 c.both_stay-self.ensures.fits.1 c.far_counts-counts.ensures c.far_counts.ensures
    c.data_closed.ensures.acts.counted refl c.both_stay-self.ensures.is

pub returns-in-ClosedByNear-clause-counted : goal.returns-in-ClosedByNear-clause-counted
returns-in-ClosedByNear-clause-counted g c =
    after c.lose_link.ensures.counted (far_kept (counts_told c.far_counts-counts.result) (counts_told c.far_counts.result) c.both_stay-self.ensures.fits.0 c.both_stay-self.ensures.fits.1 c.far_counts-counts.ensures c.far_counts.ensures
    c.data_closed.ensures.acts.counted refl c.both_stay-self.ensures.is) (omega arith)

pub returns-in_default-clause-counted : goal.returns-in_default-clause-counted
returns-in_default-clause-counted g c =
    far_kept (counts_told c.far_counts-counts.result) (counts_told c.far_counts.result) c.both_stay-self.ensures.fits.0 c.both_stay-self.ensures.fits.1 c.far_counts-counts.ensures c.far_counts.ensures
    c.data_closed.ensures.acts.counted refl c.both_stay-self.ensures.is
