use Rattle.std.proofs.Common.{arith, refl}
use Rattle.ftp_direct.proofs.RunLemmas.{steady_all, steady_begun}
use Rattle.rows_tree.proofs.in_memory.direct_in_memory.Goals as goal

pub returns-clause-answers : goal.returns-clause-answers
returns-clause-answers g c = steady_all c.direct.result _ c.args.list.now _ (omega arith) (c.direct.ensures.answers refl)

pub returns-clause-begun : goal.returns-clause-begun
returns-clause-begun g c = steady_begun c.direct.result _ c.args.list.now _ (omega arith) (c.direct.ensures.begun refl)
