use Rattle.std.proofs.Common.{sym, ◌∙◌}
use Rattle.ftp_tree.specs.Change.{never_strayed}
use Rattle.ftp_tree.proofs.DeviceLemmas.{install-no, map-tells}
use Rattle.rows_tree.proofs.failing_tree.FailingTreeTree.put.Goals as goal

pub returns-in-Some-clause-told : goal.returns-in-Some-clause-told
returns-in-Some-clause-told g c =
    map-tells (Unit {0}) _ c.in-Some.fault (never_strayed c.args.self.now.failures) (install-no _ _ _) (sym c.install_refusal.ensures ∙ c.in-Some.is)
