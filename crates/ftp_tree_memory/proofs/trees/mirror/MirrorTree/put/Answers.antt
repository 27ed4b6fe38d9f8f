use Rattle.std.proofs.Common.{None, sym, ◌∙◌}
use Rattle.ftp_tree.specs.Change.{never_strayed}
use Rattle.ftp_tree.proofs.DeviceLemmas.{call-tells, install-no, map-tells}
use Rattle.ftp_tree_memory.proofs.trees.mirror.MirrorTree.put.Goals as goal

pub returns-in-Some-clause-told : goal.returns-in-Some-clause-told
returns-in-Some-clause-told g c = map-tells (Unit {0}) _ c.in-Some.fault (never_strayed (g.D.Folder.failures c.args.self.now.folder)) (install-no _ _ _) (sym c.put_refusal.ensures ∙ c.in-Some.is)

pub returns-clause-told : goal.returns-clause-told
returns-clause-told g c = call-tells _ c.put_file.result None _ _ _ _ _ (λ e. cc) c.put_file.ensures.done c.put_file.ensures.refused
