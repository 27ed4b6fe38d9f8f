use Rattle.std.proofs.Common.{ap, sym, ◌∙◌}
use Rattle.ftp_path.specs.Path.{joined}
use Rattle.ftp_direct.proofs.EntryLemmas.{root_is}
use Rattle.ftp_direct.proofs.entry.is_root.Goals as goal

pub returns : goal.returns
returns g c = c.is_empty.ensures ∙ root_is c.args.path.now c.key.result.now (ap joined (sym c.key.ensures.names) ∙ c.key.ensures.kept.joins.whole)
