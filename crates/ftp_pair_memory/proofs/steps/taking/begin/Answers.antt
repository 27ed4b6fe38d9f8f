use Rattle.std.proofs.Common.{refl}
use Rattle.ftp_pair_memory.proofs.steps.Ending.{refused}
use Rattle.ftp_pair_memory.proofs.steps.Gathering.{begins}
use Rattle.ftp_pair_memory.proofs.steps.taking.begin.Goals as goal

pub returns-clause-begun : goal.returns-clause-begun
returns-clause-begun g c free = begins c.args.op _ _ _ _ c.is_none.result c.begin.ensures.left c.is_none.ensures free (λ none. c.begin.ensures.begun c.args.op refl none) c.begin.ensures.counted

pub returns-clause-busy : goal.returns-clause-busy
returns-clause-busy g c none = refused c.args.op _ _ _ c.is_none.result c.begin.ensures.left c.is_none.ensures none c.begin.ensures.busy
