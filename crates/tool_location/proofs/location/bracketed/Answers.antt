use Rattle.ftp_endpoint.proofs.OutcomeLemmas.{if_none}
use Rattle.tool_location.proofs.LocationLemmas.{no_bracket, no_port_behind}
use Rattle.tool_location.proofs.location.bracketed.Goals as goal

pub returns-in_err-host-clause-none : goal.returns-in_err-host-clause-none
returns-in_err-host-clause-none c = if_none _ _ (no_bracket c.args.inside.now c.in_err-host.ensures.none)

pub returns-in_err-port_behind-clause-none : goal.returns-in_err-port_behind-clause-none
returns-in_err-port_behind-clause-none c =
    let cut = c.in_ok-host.ensures in
    if_none _ _ (no_port_behind c.args.inside.now c.in_ok-host.host.now c.in_ok-host.behind.now cut.some cut.first c.in_err-port_behind.ensures.none)
