use Rattle.std.proofs.Common.{fold, ap, ◌∙◌}
use Rattle.std.specs.List.{slice_split}
use Rattle.ftp_path.specs.Path.{resolved, followed, is_slash}
use Rattle.ftp_path.proofs.path.Path.walk.Goals as goal

pub returns : goal.returns
unfolding resolved
returns g c = c.follow_all.ensures ∙ ap (λ start. fold followed start (slice_split is_slash c.args.text.now)) c.start-walk.ensures.place
