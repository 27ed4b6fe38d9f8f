use Rattle.ftp_client.proofs.FitLemmas.{starts_fit}
use Rattle.ftp_client.proofs.client.Client.new.Goals as goal

pub invariant_of-result : goal.invariant_of-result
invariant_of-result g c = record {
  fit = starts_fit _ _ g.F.ClientTransfer.flow c.in-Ok.counted c.args.login.user c.args.login.pass c.args.here c.args.peer
      c.args.login.user_fits c.args.login.pass_fits c.is_typed.ensures c.in-Ok.ensures.begun;
}
