use Rattle.std.proofs.Common.{Some, sym, ap, ◌∙◌}
use Rattle.ftp_tree_nodes.proofs.NameLemmas.{find-child}
use Rattle.ftp_tree_nodes.proofs.node.remove_child.Goals as goal

pub returns-clause-node : goal.returns-clause-node
returns-clause-node g c name stands =
    ap (λ x. Some x.node) c.into_inner.ensures ∙ sym (find-child c.args.children.now.items name c.args.at c.remove.result c.remove.ensures.value stands c.requires.within)
