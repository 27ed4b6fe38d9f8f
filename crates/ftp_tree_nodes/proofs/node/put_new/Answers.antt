use Rattle.std.proofs.Common.{◌≡◌, length, ap, ◌∙◌, arith}
use Rattle.std.specs.FinMap.Entries.{put}
use Rattle.std.proofs.lemmas.Grind.{common_steps}
use Rattle.ftp_tree_nodes.specs.Branch.{name_cmp, parts}
use Rattle.ftp_tree_nodes.proofs.NameLemmas.{new-child}
use Rattle.ftp_tree_nodes.proofs.node.put_new.Goals as goal

pub returns-in-Ok-insert-clause-ok : goal.returns-in-Ok-insert-clause-ok
returns-in-Ok-insert-clause-ok g c =
    let none : length c.args.rest.now ≡ 0 = grind (arith, common_steps) in
    let named = ap (λ x. x.name) c.in-Ok-new.ensures.ok ∙ c.in-Ok.ensures in (
      new-child c.args.children.now.items c.insert.new.self.items c.args.name.now c.args.at c.in-Ok-new.child named c.requires.gap c.in-Ok-insert.ensures.items
          ∙ ap (λ x. put name_cmp c.args.name.now x.node (parts c.args.children.now.items)) c.in-Ok-new.ensures.ok,
      none,
    )
