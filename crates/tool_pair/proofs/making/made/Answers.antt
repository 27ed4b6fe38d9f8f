use Rattle.tool_pair.proofs.Roots.{made_whole}
use Rattle.tool_pair.proofs.making.made.Goals as goal

pub returns-in-Ok-make_dir-clause-tree : goal.returns-in-Ok-make_dir-clause-tree
returns-in-Ok-make_dir-clause-tree g c =
    made_whole c.args.tree.now c.make_dir.new.self c.root-root.result c.in-Ok.path c.root-root.ensures c.in-Ok-make_dir.ensures.done.1
