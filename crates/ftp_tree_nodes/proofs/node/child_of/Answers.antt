use Rattle.std.proofs.Common.{Some, sym, ap, ◌∙◌}
use Rattle.ftp_tree_nodes.specs.Branch.{parts}
use Rattle.ftp_tree_nodes.proofs.NameLemmas.{find-gap, find-child}
use Rattle.ftp_tree_nodes.proofs.node.child_of.Goals as goal

pub returns-in_default : goal.returns-in_default
returns-in_default g c = sym (find-gap (parts c.args.children.now) c.requires c.args.name.now _ c.in_default.ensures.gap)

pub returns : goal.returns
returns g c =
    ap (λ x. Some x.node) c.deref.ensures
    ∙ sym (find-child c.args.children.now c.args.name.now c.in-Ok.at c.index-children-at.result c.index-children-at.is c.in-Ok.ensures.there c.in-Ok.ensures.within)
