use Rattle.std.proofs.Common.{inl, sym, ◌∙◌}
use Rattle.ftp_tree_memory.proofs.trees.memory.MemTreeTree.delete.Goals as goal

pub take_away-requires : goal.take_away-requires
take_away-requires g c = inl (sym c.delete_refusal.ensures ∙ c.in_default.is)
