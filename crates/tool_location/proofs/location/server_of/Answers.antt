use Rattle.ftp_endpoint.proofs.OutcomeLemmas.{if_none}
use Rattle.tool_location.proofs.LocationLemmas.{no_host_and_port}
use Rattle.tool_location.proofs.location.server_of.Goals as goal

pub returns-in_err-host-clause-none : goal.returns-in_err-host-clause-none
returns-in_err-host-clause-none c = if_none _ _ (no_host_and_port c.args.text.now c.in_err-host.ensures.none)
