use Rattle.laws_server.proofs.one.RootTheorems.{roots_are_apart}
use Rattle.laws_server.proofs.one.roots.roots_are_apart.Goals as goal

pub returns : goal.returns
returns c = roots_are_apart
