use Rattle.std.proofs.Common.{sym, ap, ◌∙◌}
use Rattle.ftp_path.specs.Kept.{names_of}
use Rattle.ftp_tree.specs.Tree.{node_at, under}
use Rattle.ftp_tree.proofs.MapLemmas.{empty-at}
use Rattle.ftp_tree.proofs.TextLemmas.{kept-place}
use Rattle.ftp_tree.specs.Map as maps
use Rattle.ftp_tree_nodes.proofs.nodes.Nodes.standing.Goals as goal

pub find-requires : goal.find-requires
find-requires g c = kept-place _ c.key.ensures.kept

pub at-requires : goal.at-requires
at-requires g c = kept-place _ c.key-2.ensures.kept

pub returns-in_default : goal.returns-in_default
unfolding node_at under
returns-in_default g c =
    sym (empty-at c.args.path.now) ∙ ap (λ part. maps.node_at part c.args.path.now) c.in_default.ensures
    ∙ ap (λ names. maps.node_at (maps.under c.self.inside.root names) c.args.path.now) c.key.ensures.names
    ∙ ap (λ table. node_at (under table c.args.root.now) c.args.path.now) c.self.view_is

pub returns : goal.returns
unfolding node_at under
returns g c =
    c.at.ensures ∙ ap (λ part. maps.node_at part (names_of c.key-2.result.now)) c.in-Some.ensures
    ∙ ap (λ names. maps.node_at (maps.under c.self.inside.root names) (names_of c.key-2.result.now)) c.key.ensures.names
    ∙ ap (λ table. node_at (under table c.args.root.now) (names_of c.key-2.result.now)) c.self.view_is
    ∙ ap (node_at (under c.args.self.now c.args.root.now)) c.key-2.ensures.names
