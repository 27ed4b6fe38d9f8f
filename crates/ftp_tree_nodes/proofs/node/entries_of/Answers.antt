use Rattle.std.proofs.Common.{ap, ◌∙◌}
use Rattle.ftp_path.specs.Path.{is_name}
use Rattle.ftp_tree_nodes.proofs.NameLemmas.{name-get}
use Rattle.ftp_tree_nodes.proofs.node.entries_of.Goals as goal

pub push-requires : goal.push-requires
push-requires g c =
    let named = name-get c.args.children.now c.loop-child.child-index c.child-item.result c.loop-child-test.true c.child-item.is c.requires in
    ap is_name (c.in_ok-share.ensures ∙ ap (λ x. x.name) c.deref.ensures) ∙ named.0
