use Rattle.std.proofs.Common.{sym, ◌∙◌}
use Rattle.ftp_tree.specs.Change.{never_strayed}
use Rattle.ftp_tree.proofs.DeviceLemmas.{install-no, map-tells}
use Rattle.ftp_tree_memory.proofs.trees.memory.MemTreeTree.put.Goals as goal

pub returns-in-Some-clause-told : goal.returns-in-Some-clause-told
returns-in-Some-clause-told g c = map-tells (Unit {0}) _ c.in-Some.fault (never_strayed 0) (install-no _ _ _) (sym c.put_refusal.ensures ∙ c.in-Some.is)
