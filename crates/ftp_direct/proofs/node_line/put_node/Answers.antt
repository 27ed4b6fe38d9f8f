use Rattle.std.proofs.Common.{◌∙◌, ap, ◌++◌}
use Rattle.ftp_tree.specs.Tree.{node_at, under}
use Rattle.ftp_direct.proofs.NodeLineLemmas.{dir_lined, file_lined}
use Rattle.ftp_direct.proofs.node_line.put_node.Goals as goal

pub returns-in_default-clause-line : goal.returns-in_default-clause-line
returns-in_default-clause-line g c =
    c.in_ok-put_dir_line.ensures.line
    ∙ ap (λ l. c.args.line.now.items ++ l) (dir_lined c.args.name.now (node_at (under (g.T.Tree.table c.args.tree.now) c.args.root.now) c.args.path.now) c.in_default.ensures)

pub returns-clause-line : goal.returns-clause-line
returns-clause-line g c =
    let node = node_at (under (g.T.Tree.table c.args.tree.now) c.args.root.now) c.args.path.now in
    let file = c.in-Some.file in
    c.in_ok-put_file_line.ensures.line ∙ ap (λ l. c.args.line.now.items ++ l) (file_lined c.args.name.now node file.size file.moment.seconds c.in-Some.ensures)
