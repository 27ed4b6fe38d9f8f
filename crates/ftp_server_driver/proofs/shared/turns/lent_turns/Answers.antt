use Rattle.std.proofs.Common.{[], refl}
use Rattle.ftp_ports.specs.Machine.{held}
use Rattle.ftp_driver.specs.Standing.{channel_at}
use Rattle.ftp_server_driver.specs.alone.Side.{beside, timed}
use Rattle.ftp_server_driver.proofs.shared.Ending.{takes}
use Rattle.ftp_server_driver.specs.shared.Lending.{holding}
use Rattle.ftp_server_driver.proofs.shared.turns.lent_turns.Goals as goal

pub returns-clause-turn : goal.returns-clause-turn
returns-clause-turn g c =
    let made = c.drive_some-turned in
    let server = g.F.Far.server in
    let here = timed server g.C.Watch.told in
    let channel = channel_at g.P.Stream.Read.remaining g.P.Stream.Write.contents in
    let stand = beside g.R.Read.remaining g.W.Write.contents in
    let old = stand (held (here c.args.clocked.now) (channel (g.P.Ports.history c.args.ports.now) c.args.data.now [])) c.args.control.now in
    let mid = stand (held (here made.new.clocked) (channel (g.P.Ports.history made.new.ports) made.new.data [])) made.new.control in
    let back = holding (g.T.Tree.table c.lend.new.tree) (g.T.Tree.failures c.lend.new.tree) in
    takes _ old mid (server c.lend.new.self) (server c.give_back.new.self) back refl c.lend.ensures.taken made.ensures.made
    c.lend.ensures.left c.lend.ensures.failures c.give_back.ensures.left c.give_back.ensures.failures c.give_back.ensures.stands c.give_back.ensures.taken
