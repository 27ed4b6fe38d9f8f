use Rattle.std.proofs.Common.{[]}
use Rattle.ftp_endpoint.specs.Endpoint.{SaysSix}
use Rattle.ftp_endpoint.specs.declared.endpoint.Endpoint.{Endpoint}
use Rattle.ftp_endpoint.proofs.OutcomeLemmas.{if_none}
use Rattle.ftp_endpoint.proofs.endpoint.six_numbers.Goals as goal

pub returns-in_err-endpoint-clause-none : goal.returns-in_err-endpoint-clause-none
returns-in_err-endpoint-clause-none c =
    let none : (e : Endpoint) → SaysSix c.args.text.now e → ⊥ = λ e h. c.in_err-endpoint.ensures.none e [] h in
    if_none _ _ none
