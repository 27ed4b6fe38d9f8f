use Rattle.std.proofs.Common.{refl, arith}
use Rattle.ftp_server_model.specs.Far.{counts_told}
use Rattle.ftp_pair_events.proofs.events.Keeping.{far_kept, after}
use Rattle.ftp_pair_events.proofs.events.parts.Parts.tell_data_to_server.Goals as goal

pub returns-clause-counted : goal.returns-clause-counted
returns-clause-counted g c =
    after c.lose_link.ensures.counted (far_kept (counts_told c.far_counts-counts.result) (counts_told c.far_counts.result) c.both_stay-self.ensures.fits.0 c.both_stay-self.ensures.fits.1 c.far_counts-counts.ensures c.far_counts.ensures
    c.data_end.ensures.acts.counted refl c.both_stay-self.ensures.is) (omega arith)
