use Rattle.std.proofs.Common.{◌-◌, ◌++◌, length, sym, ap, ◌∙◌}
use Rattle.std.specs.List.{list_all}
use Rattle.ftp_path.specs.Path.{fits, text_limit}
use Rattle.ftp_path.proofs.PathLemmas.{kept-le}
use Rattle.ftp_tree.specs.Text.{is_within_room}
use Rattle.ftp_tree.specs.Rows.{whole}
use Rattle.ftp_tree.specs.Tree.{moves_fit, under}
use Rattle.ftp_tree_nodes.proofs.WholeLemmas.{empty-keys, moves-below, moves-room}
use Rattle.ftp_tree.proofs.TextLemmas.{kept-place}
use Rattle.std.specs.FinMap as fin
use Rattle.ftp_tree.specs.Map as maps
use Rattle.ftp_tree_nodes.proofs.nodes.Nodes.moves_fit.Goals as goal

pub returns-in_default : goal.returns-in_default
unfolding under
returns-in_default g c =
    sym (empty-keys (λ q. fits (c.args.to.now ++ q)))
    ∙ ap (λ table. list_all (λ q. fits (c.args.to.now ++ q)) (fin.keys table)) (c.in_default.ensures ∙ ap (maps.under c.self.inside.root) (c.key.ensures.names ∙ c.of-above.ensures))
    ∙ moves-below (whole c.self.inside.limits c.self.inside.root) c.args.root.now c.args.from.now c.args.to.now ∙ ap (λ table. moves_fit (under table c.args.root.now) c.args.from.now c.args.to.now) c.self.view_is

pub overflow_sub-key : goal.overflow_sub-key
overflow_sub-key g c = kept-le _ c.key-2.ensures.kept

pub returns : goal.returns
unfolding under
returns g c =
    let to = c.key-2.result.now in
    c.fits.ensures ∙ ap (λ table. list_all (is_within_room (text_limit - length to)) (fin.keys table)) (c.in-Some.ensures ∙ ap (maps.under c.self.inside.root) (c.key.ensures.names ∙ c.of-above.ensures))
    ∙ moves-room (whole c.self.inside.limits c.self.inside.root) c.args.root.now c.args.from.now c.args.to.now to (kept-place _ c.key-2.ensures.kept) c.key-2.ensures.names (kept-le _ c.key-2.ensures.kept)
    ∙ ap (λ table. moves_fit (under table c.args.root.now) c.args.from.now c.args.to.now) c.self.view_is
