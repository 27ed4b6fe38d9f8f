use Rattle.std.proofs.Common.{not, sym, ap, ◌∙◌}
use Rattle.std.proofs.lemmas.Bool.{lt-leb, le-leb}
use Rattle.ftp_tree.specs.Tree.{under, node_at, kind_at, size_at, octets_at, front_refusal, whenever}
use Rattle.ftp_tree.specs.declared.fault.TreeFault.TheVariants.{BadOffset}
use Rattle.ftp_tree_memory.proofs.trees.ContentLemmas.{front-absent, front-kind, front-size}
use Rattle.ftp_tree_memory.proofs.trees.content.front_refusal.Goals as goal

pub returns-in-None : goal.returns-in-None
unfolding front_refusal kind_at size_at octets_at
returns-in-None g c = sym (front-absent (node_at (under (g.T.Tree.table c.args.tree.now) c.args.root.now) c.args.path.now) c.args.count (sym c.size.ensures ∙ c.in_default.is) (sym c.kind.ensures ∙ c.in-None.is))

pub returns-in-Some-kind : goal.returns-in-Some-kind
unfolding front_refusal kind_at size_at octets_at
returns-in-Some-kind g c =
    sym (front-kind (node_at (under (g.T.Tree.table c.args.tree.now) c.args.root.now) c.args.path.now) c.args.count c.in-Some-kind.field-0 (sym c.size.ensures ∙ c.in_default.is) (sym c.kind.ensures ∙ c.in-Some-kind.is))

pub returns-then-count-size : goal.returns-then-count-size
unfolding front_refusal size_at octets_at
returns-then-count-size g c =
    sym (front-size (node_at (under (g.T.Tree.table c.args.tree.now) c.args.root.now) c.args.path.now) c.args.count c.in-Some.size (sym c.size.ensures ∙ c.in-Some.is)
    ∙ ap (λ b. whenever (not b) BadOffset) (lt-leb c.args.count c.in-Some.size c.if-count-size.true))

pub returns : goal.returns
unfolding front_refusal size_at octets_at
returns g c =
    sym (front-size (node_at (under (g.T.Tree.table c.args.tree.now) c.args.root.now) c.args.path.now) c.args.count c.in-Some.size (sym c.size.ensures ∙ c.in-Some.is)
    ∙ ap (λ b. whenever (not b) BadOffset) (le-leb c.args.count c.in-Some.size c.if-count-size.false))
