use Rattle.std.proofs.Common.{◌≡◌, None, Some, is_some, sym, ap, ◌∙◌, subst}
use Rattle.ftp_tree.specs.Tree.{Table, node_at, under}
use Rattle.ftp_tree_memory.proofs.trees.MirrorLemmas.{always-ok, kind-absent}
use Rattle.rows_tree.proofs.failing_folder.FailingFolderFolder.write_new.Goals as goal

-- what is kept is one map
one-kept : (one other : Table) → Some one ≡ Some other → one ≡ other
one-kept one other is = cc

pub returns-clause-free : goal.returns-clause-free
returns-clause-free g c =
    let absent = kind-absent _ c.args.path.now (ap is_some (sym c.kind.ensures) ∙ sym c.is_some.ensures ∙ c.if-is_some.false) in
    always-ok c.written.result (λ its held. subst (λ table. node_at (under table c.args.root.now) c.args.path.now ≡ None) (c.fails.ensures.tree ∙ one-kept _ its held) absent)
