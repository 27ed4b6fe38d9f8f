use Rattle.ftp_tree_memory.proofs.trees.MirrorLemmas.{done-steady, refused-steady}
use Rattle.ftp_tree_memory.proofs.trees.mirror.MirrorTree.open.Goals as goal

pub returns-clause-done : goal.returns-clause-done
returns-clause-done g c = done-steady c.open.result _ _ _ _ c.open.ensures.done

pub returns-clause-refused : goal.returns-clause-refused
returns-clause-refused g c = refused-steady c.open.result _ _ _ _ c.open.ensures.refused
