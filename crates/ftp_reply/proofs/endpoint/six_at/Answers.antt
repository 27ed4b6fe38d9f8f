use Rattle.std.proofs.Common.{sym, subst, List, ℕ}
use Rattle.ftp_endpoint.specs.Endpoint.{BeginsWithSix}
use Rattle.ftp_reply.proofs.endpoint.six_at.Goals as goal

pub returns-in-None-clause-none : goal.returns-in-None-clause-none
returns-in-None-clause-none c = λ endpoint has.
    c.in-None.ensures.none endpoint has.behind (subst (λ (t : List ℕ). BeginsWithSix t endpoint has.behind) (sym c.split_at.ensures.back) has.numbers)
