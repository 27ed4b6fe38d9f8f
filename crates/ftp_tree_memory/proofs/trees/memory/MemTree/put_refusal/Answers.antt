use Rattle.std.proofs.Common.{take, sym, ap, ◌+◌, ◌∙◌, length}
use Rattle.std.proofs.lemmas.List.{length-append}
use Rattle.ftp_tree.specs.Tree.{install_refusal, octets_or_none, under}
use Rattle.ftp_tree_memory.proofs.trees.memory.MemTree.put_refusal.Goals as goal

pub returns : goal.returns
returns g c =
    let part = under c.args.self.now c.args.root.now in
    let kept = take c.args.keep (octets_or_none part c.args.path.now) in
    c.put_refusal.ensures
    ∙ ap (λ table. install_refusal (under table c.args.root.now) c.args.path.now (length (take c.args.keep (octets_or_none (under table c.args.root.now) c.args.path.now)) + c.len.result)) c.self.view_is
    ∙ ap (install_refusal part c.args.path.now) (ap (λ n. length kept + n) c.len.ensures ∙ sym (length-append kept c.args.came.now))
