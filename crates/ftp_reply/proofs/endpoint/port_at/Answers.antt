use Rattle.std.proofs.Common.{sym, subst, List, ℕ}
use Rattle.ftp_endpoint.specs.Endpoint.{BeginsWithPort}
use Rattle.ftp_reply.proofs.endpoint.port_at.Goals as goal

pub returns-in-None-clause-none : goal.returns-in-None-clause-none
returns-in-None-clause-none c = λ port has.
    c.in-None.ensures.none port (subst (λ (t : List ℕ). BeginsWithPort t port) (sym c.split_at.ensures.back) has.port_is)
