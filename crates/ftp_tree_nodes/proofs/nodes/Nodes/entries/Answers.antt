use Rattle.std.proofs.Common.{[], sym, ap, ◌∙◌}
use Rattle.std.proofs.lemmas.Result.{IfOk-weaker}
use Rattle.ftp_tree.specs.Tree.{entries_at, under}
use Rattle.ftp_tree_nodes.proofs.ShownLemmas.{entries-below, entries-none}
use Rattle.ftp_tree.specs.Map as maps
use Rattle.ftp_tree_nodes.proofs.nodes.Nodes.entries.Goals as goal

pub returns-in_default : goal.returns-in_default
unfolding entries_at under
returns-in_default g c =
    c.none.ensures ∙ sym (entries-none []) ∙ ap (λ table. maps.entries_at table []) (c.in_default.ensures ∙ ap (maps.under c.self.inside.root) (c.key.ensures.names ∙ c.of-above.ensures))
    ∙ entries-below c.self.inside.root c.args.root.now c.args.path.now ∙ ap (λ table. entries_at (under table c.args.root.now) c.args.path.now) c.self.view_is

pub returns : goal.returns
unfolding entries_at under
returns g c =
    IfOk-weaker c.entries.result _ _
    (λ entries is. is ∙ ap (λ table. maps.entries_at table []) (c.in-Some.ensures ∙ ap (maps.under c.self.inside.root) (c.key.ensures.names ∙ c.of-above.ensures))
    ∙ entries-below c.self.inside.root c.args.root.now c.args.path.now ∙ ap (λ table. entries_at (under table c.args.root.now) c.args.path.now) c.self.view_is)
    c.entries.ensures
