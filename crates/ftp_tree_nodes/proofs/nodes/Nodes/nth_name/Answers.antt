use Rattle.std.proofs.Common.{[], sym, ap, ◌∙◌}
use Rattle.std.specs.List.{slice_get}
use Rattle.ftp_tree.specs.Tree.{children, under}
use Rattle.ftp_tree.proofs.RowLemmas.{empty-names, names-below}
use Rattle.ftp_tree.specs.Map as maps
use Rattle.ftp_tree_nodes.proofs.nodes.Nodes.nth_name.Goals as goal

pub returns-in_default : goal.returns-in_default
unfolding children under
returns-in_default g c =
    ap (λ l. slice_get l c.args.place) (sym empty-names ∙ ap (λ table. maps.children table []) (c.in_default.ensures ∙ ap (maps.under c.self.inside.root) (c.key.ensures.names ∙ c.of-above.ensures))
    ∙ names-below c.self.inside.root c.args.root.now c.args.path.now)
    ∙ ap (λ table. slice_get (children (under table c.args.root.now) c.args.path.now) c.args.place) c.self.view_is

pub returns : goal.returns
unfolding children under
returns g c =
    c.nth_name.ensures
    ∙ ap (λ l. slice_get l c.args.place) (ap (λ table. maps.children table []) (c.in-Some.ensures ∙ ap (maps.under c.self.inside.root) (c.key.ensures.names ∙ c.of-above.ensures))
    ∙ names-below c.self.inside.root c.args.root.now c.args.path.now)
    ∙ ap (λ table. slice_get (children (under table c.args.root.now) c.args.path.now) c.args.place) c.self.view_is
