use Rattle.ftp_driver.specs.Standing.{HasNone}
use Rattle.ftp_ports.specs.Channel.{no_channel}
use Rattle.ftp_ports.specs.Machine.{held}
use Rattle.ftp_client_driver.specs.Side.{client_beside}
use Rattle.tool_connect.proofs.ConversingLemmas.{conversed_by}
use Rattle.tool_connect.proofs.single.play_by.Goals as goal

pub returns : goal.returns
returns g c =
    let stand = client_beside g.C.Read.remaining g.W.Write.contents in
    conversed_by _ _ _ _ _ c.args.play.now c.play.new.self c.play.result c.play.ensures
    (λ session. HasNone g.O.Stream.Read.remaining g.O.Stream.Write.contents session.data.now)
    (λ session. stand (held (g.N.Near.client session.client) (no_channel (g.O.Ports.history session.ports.now))) session.control.now)
    (λ request answer old new does. (λ begins. (new.control.now.failed, does.0 begins), does.1)) c.requires
