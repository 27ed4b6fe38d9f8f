use Rattle.std.proofs.Common.{refl}
use Rattle.ftp_server_model.specs.Far.{counts_told}
use Rattle.ftp_pair_events.proofs.events.Keeping.{far_kept}
use Rattle.ftp_pair_events.proofs.events.parts.Parts.pull_data_to_client.Goals as goal

pub returns-clause-counted : goal.returns-clause-counted
returns-clause-counted g c =
    far_kept (counts_told c.far_counts-counts.result) (counts_told c.far_counts.result) c.both_stay-self.ensures.fits.0 c.both_stay-self.ensures.fits.1 c.far_counts-counts.ensures c.far_counts.ensures
    c.data_out-given.ensures.now.counted refl c.both_stay-self.ensures.is
