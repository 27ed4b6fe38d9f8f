use Rattle.std.proofs.Common.{min, ap, ◌∙◌}
use Rattle.ftp_tree.specs.Tree.{octets_or_none, under}
use Rattle.ftp_tree_nodes.proofs.CountLemmas.{refused-after}
use Rattle.ftp_tree_nodes.proofs.nodes.Nodes.put_refusal.Goals as goal

pub returns : goal.returns
returns g c =
    let part = under c.args.self.now c.args.root.now in
    c.install_refusal.ensures
    ∙ refused-after part c.args.path.now (octets_or_none part c.args.path.now) c.args.keep c.min-kept.result c.args.came c.saturating_add.result
    (c.min-kept.ensures ∙ ap (min c.args.keep) c.len_at.ensures) c.saturating_add.ensures
