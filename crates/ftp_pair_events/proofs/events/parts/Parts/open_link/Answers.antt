use Rattle.std.proofs.Common.{refl}
use Rattle.ftp_pair_events.proofs.events.Keeping.{near_kept, far_kept, after, at_most}
use Rattle.ftp_server_model.specs.Far.{counts_told}
use Rattle.ftp_pair_events.specs.events.Calm.{Tally}
use Rattle.ftp_pair_events.proofs.events.parts.Parts.open_link.Goals as goal

pub returns-clause-counted : goal.returns-clause-counted
returns-clause-counted g c =
    let mid : Tally = record { near = (g.N.Near.client c.data_opened.new.self).refusals; far = (g.F.Far.server c.args.self.now.far).counts } in
    after
    (far_kept {old = mid} (counts_told c.far_counts-counts.result) (counts_told c.far_counts.result) c.both_stay-self.ensures.fits.0 c.both_stay-self.ensures.fits.1 c.far_counts-counts.ensures c.far_counts.ensures
    c.data_opened-2.ensures.acts.counted refl c.both_stay-self.ensures.is)
    (near_kept {new = mid} c.refusals-near_refusals.result c.refusals.result c.stays-calm.ensures.fits c.refusals-near_refusals.ensures c.refusals.ensures c.data_opened.ensures.counted refl c.stays-calm.ensures.is)
    (at_most 6)
