use Rattle.ftp_endpoint.proofs.OutcomeLemmas.{if_none}
use Rattle.std.proofs.Common.{subst}
use Rattle.ftp_endpoint.specs.Number.{IsPort}
use Rattle.tool_location.proofs.LocationLemmas.{no_port}
use Rattle.tool_location.proofs.location.bare.Goals as goal

pub returns-in_err-port-in-Some-clause-none : goal.returns-in_err-port-in-Some-clause-none
returns-in_err-port-in-Some-clause-none c =
    if_none _ _ (no_port c.args.text.now c.in-Some.host.now c.in-Some.digits.now c.in-Some.ensures.some c.in-Some.ensures.first (subst (λ t. IsPort t → ⊥) c.as_bytes.ensures.value c.in_err-port-in-Some.ensures))
