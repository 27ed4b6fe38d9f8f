use Rattle.std.proofs.Common.{arith}
use Rattle.ftp_client.proofs.FitLemmas.{holds_little}
use Rattle.ftp_client.proofs.client.Client.held.Goals as goal

pub talk_len-requires : goal.talk_len-requires
talk_len-requires g c = omega (arith, holds_little _ _ g.F.ClientTransfer.flow c.args.self.now.counted c.args.self.now.fit)

pub returns-clause-little : goal.returns-clause-little
returns-clause-little g c =
    omega (arith, c.stored_len.ensures.few, c.talk_len.ensures, holds_little _ _ g.F.ClientTransfer.flow c.args.self.now.counted c.args.self.now.fit)

pub returns-clause-room : goal.returns-clause-room
returns-clause-room g c = holds_little _ _ g.F.ClientTransfer.flow c.args.self.now.counted c.args.self.now.fit
