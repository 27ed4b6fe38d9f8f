use Rattle.std.proofs.Common.{inr, sym, ◌∙◌}
use Rattle.ftp_tree_memory.proofs.trees.memory.MemTreeTree.remove_dir.Goals as goal

pub take_away-requires : goal.take_away-requires
take_away-requires g c = inr (sym c.remove_refusal.ensures ∙ c.in_default.is)
