use Rattle.std.proofs.Common.{sym, ◌∙◌}
use Rattle.ftp_tree_nodes.proofs.PlacingLemmas.{make-above, make-absent}
use Rattle.ftp_tree_nodes.proofs.nodes.Nodes.make_dir.Goals as goal

pub make_place-requires-clause-absent : goal.make_place-requires-clause-absent
make_place-requires-clause-absent g c = make-absent _ c.args.path.now (sym c.make_refusal.ensures ∙ c.in_default.is)

pub make_place-requires-clause-above : goal.make_place-requires-clause-above
make_place-requires-clause-above g c = make-above _ c.args.path.now (sym c.make_refusal.ensures ∙ c.in_default.is)
