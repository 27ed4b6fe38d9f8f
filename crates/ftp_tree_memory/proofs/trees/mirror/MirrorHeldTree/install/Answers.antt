use Rattle.std.proofs.Common.{sym, ap, ◌∙◌}
use Rattle.std.proofs.lemmas.Result.{IfErr-weaker, on_ok_weaker}
use Rattle.ftp_tree.specs.Tree.{install_refusal, under}
use Rattle.ftp_tree_memory.proofs.trees.MirrorLemmas.{refuses-as}
use Rattle.ftp_tree_memory.proofs.trees.mirror.MirrorHeldTree.install.Goals as goal

pub put_file-requires : goal.put_file-requires
put_file-requires g c = ap (install_refusal (under c.args.self.now.tree c.args.root.now) c.args.path.now) (sym c.len.ensures) ∙ sym c.install_refusal.ensures ∙ c.in_default.is

pub returns-clause-done : goal.returns-clause-done
returns-clause-done g c =
    let none = ap (install_refusal (under c.args.self.now.tree c.args.root.now) c.args.path.now) (sym c.len.ensures) ∙ sym c.install_refusal.ensures ∙ c.in_default.is in
    on_ok_weaker c.put_file.result (λ done. (none, done.1, done.2)) c.put_file.ensures.done

pub returns-clause-refused : goal.returns-clause-refused
returns-clause-refused g c =
    let none = ap (install_refusal (under c.args.self.now.tree c.args.root.now) c.args.path.now) (sym c.len.ensures) ∙ sym c.install_refusal.ensures ∙ c.in_default.is in
    IfErr-weaker c.put_file.result _ _ (λ fault refused. (refused.0, refuses-as _ fault _ _ none refused.1)) c.put_file.ensures.refused
