use Rattle.ftp_endpoint.proofs.ExtendedLemmas.{no_host, no_shape}
use Rattle.ftp_endpoint.proofs.extended.extended_endpoint.Goals as goal

pub returns-in_default-clause-err : goal.returns-in_default-clause-err
returns-in_default-clause-err c = no_shape c.args.text.now c.in_default.ensures.none

pub returns-in-None-clause-err : goal.returns-in-None-clause-err
returns-in-None-clause-err c =
    no_host c.args.text.now c.in-Some.proto c.in-Some.address.now c.in-Some.port c.in-Some.ensures.some c.if-not-is_known.ensures c.in-None.ensures.none
