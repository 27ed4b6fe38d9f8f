use Rattle.ftp_endpoint.proofs.OutcomeLemmas.{if_none}
use Rattle.tool_location.proofs.LocationLemmas.{no_slash, no_server}
use Rattle.tool_location.proofs.location.place_of.Goals as goal

pub returns-in_err-server-clause-none : goal.returns-in_err-server-clause-none
returns-in_err-server-clause-none c = if_none _ _ (no_slash c.args.text.now c.in_err-server.ensures.none)

pub returns-in_err-host-clause-none : goal.returns-in_err-host-clause-none
returns-in_err-host-clause-none c =
    let cut = c.in_ok-server.ensures in
    if_none _ _ (no_server c.args.text.now c.in_ok-server.server.now c.in_ok-server.path.now cut.some cut.first c.in_err-host.ensures.none)
