use Rattle.ftp_endpoint.proofs.ExtendedLemmas.{no_v4, no_v6}
use Rattle.ftp_endpoint.proofs.extended.host.Goals as goal

pub returns-in-None-clause-none : goal.returns-in-None-clause-none
returns-in-None-clause-none c = no_v4 c.args.proto c.args.address.now c.if-proto-eq1.true c.in-None.ensures.none

pub returns-in-None-v6-clause-none : goal.returns-in-None-v6-clause-none
returns-in-None-v6-clause-none c = no_v6 c.args.proto c.args.address.now c.if-proto-eq1.false c.in-None-v6.ensures.none
