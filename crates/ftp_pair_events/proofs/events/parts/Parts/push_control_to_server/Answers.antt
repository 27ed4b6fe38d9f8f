use Rattle.std.proofs.Common.{ap, sym, ◌∙◌}
use Rattle.ftp_server_model.specs.Far.{counts_told}
use Rattle.ftp_pair_events.specs.events.Shown.{shown}
use Rattle.ftp_pair_events.proofs.events.Taking.{far_takes, pushed_server_of}
use Rattle.std.proofs.Common.{refl}
use Rattle.ftp_server_model.proofs.LinesDecided.{reading_exists}
use Rattle.ftp_pair_events.proofs.events.Keeping.{far_kept}
use Rattle.ftp_pair_events.proofs.events.parts.Parts.push_control_to_server.Goals as goal

pub returns-clause-takes : goal.returns-clause-takes
returns-clause-takes g c calm =
    let s = c.both_stay-self.ensures.kept calm in
    let same = sym c.far_counts.ensures ∙ ap counts_told s.1 ∙ c.far_counts-counts.ensures in (
      s.0,
      λ read reads. far_takes read c.args.most c.hear-taken.result c.front.result.now (shown g.N.Near.client g.F.Far.server c.args.self.now) c.front.ensures c.hear-taken.ensures.within
          ((c.hear-taken.ensures.took read reads).may same) c.hear-taken.ensures.some,
    )

pub returns-clause-moved : goal.returns-clause-moved
returns-clause-moved g c calm =
    let s = c.both_stay-self.ensures.kept calm in
    let same = sym c.far_counts.ensures ∙ ap counts_told s.1 ∙ c.far_counts-counts.ensures in (
      s.0,
      λ read reads. pushed_server_of read c.hear-taken.result c.args.most c.front.result.now (shown g.N.Near.client g.F.Far.server c.args.self.now) _ _ _
          c.front.ensures c.hear-taken.ensures.within ((c.hear-taken.ensures.took read reads).done same) c.take_front.ensures.left c.take_front.ensures.items,
    )

pub returns-clause-counted : goal.returns-clause-counted
returns-clause-counted g c =
    far_kept (counts_told c.far_counts-counts.result) (counts_told c.far_counts.result) c.both_stay-self.ensures.fits.0 c.both_stay-self.ensures.fits.1 c.far_counts-counts.ensures c.far_counts.ensures
    (c.hear-taken.ensures.took reading_exists.0 reading_exists.1).counted refl c.both_stay-self.ensures.is
