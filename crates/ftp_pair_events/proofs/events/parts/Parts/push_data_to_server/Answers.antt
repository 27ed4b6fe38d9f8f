use Rattle.std.proofs.Common.{sym, ◌∙◌, ap}
use Rattle.ftp_server_model.specs.Far.{counts_told}
use Rattle.ftp_pair_events.specs.events.Shown.{shown}
use Rattle.ftp_pair_events.proofs.events.Taking.{far_data_takes}
use Rattle.std.proofs.Common.{refl}
use Rattle.ftp_pair_events.proofs.events.Keeping.{far_kept}
use Rattle.ftp_pair_events.proofs.events.parts.Parts.push_data_to_server.Goals as goal

pub returns-clause-takes : goal.returns-clause-takes
returns-clause-takes g c calm =
    let s = c.both_stay-self.ensures.kept calm in (
      s.0,
      λ read reads. far_data_takes read c.args.most c.data_hear-taken.result c.front.result.now (shown g.N.Near.client g.F.Far.server c.args.self.now) c.front.ensures c.data_hear-taken.ensures.within
          (c.data_hear-taken.ensures.took.may (sym c.far_counts.ensures ∙ ap counts_told s.1 ∙ c.far_counts-counts.ensures)) c.data_hear-taken.ensures.some,
    )

pub returns-clause-counted : goal.returns-clause-counted
returns-clause-counted g c =
    far_kept (counts_told c.far_counts-counts.result) (counts_told c.far_counts.result) c.both_stay-self.ensures.fits.0 c.both_stay-self.ensures.fits.1 c.far_counts-counts.ensures c.far_counts.ensures
    c.data_hear-taken.ensures.took.counted refl c.both_stay-self.ensures.is
