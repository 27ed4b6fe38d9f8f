use Rattle.std.proofs.Common.{[], refl, subst, Some}
use Rattle.std.specs.Option.{option_map}
use Rattle.std.specs.Prelude.{false}
use Rattle.ftp_ports.specs.Channel.{no_channel}
use Rattle.ftp_ports.specs.Machine.{held}
use Rattle.ftp_driver.proofs.Driven.{breaks_off}
use Rattle.ftp_driver.specs.Calling.{Ends}
use Rattle.ftp_driver.specs.Standing.{channel_at}
use Rattle.ftp_operation.specs.Answer.{said_of}
use Rattle.ftp_client_driver.proofs.Ending.{drove, gave_up}
use Rattle.ftp_client_driver.specs.Driving.{ClientDrove, ClientGivesUp, Reports}
use Rattle.ftp_client_driver.specs.Side.{client_beside, client_machine}
use Rattle.ftp_client_driver.proofs.drive.drive_client.Goals as goal

pub returns-in-Ok-clause-drives : goal.returns-in-Ok-clause-drives
returns-in-Ok-clause-drives g c none =
    let ended = c.drive_end-ended in
    let history = g.P.Ports.history in
    let channel = channel_at g.P.Stream.Read.remaining g.P.Stream.Write.contents in
    let stand = client_beside g.R.Read.remaining g.W.Write.contents in
    let first = g.N.Near.client c.args.client.now in
    let off = stand (held (g.N.Near.client ended.new.end) (channel (history ended.new.ports) ended.new.data [])) ended.new.control in
    let start = stand (held first (no_channel (history c.args.ports.now))) c.args.control.now in
    let ends = subst (λ l. Ends client_machine Reports (stand (held first l) c.args.control.now) off ended.result) (none (history c.args.ports.now)) ended.ensures.ends in
    subst (λ l. ClientDrove start (stand (held (g.N.Near.client c.data_closed.new.self) l) ended.new.control) (Some (said_of c.in-Ok.answer))) (c.leave.ensures.none (history c.leave.new.ports))
    (drove start off _ _ ended.result c.in-Ok.answer c.leave.ensures.left.0 refl refl c.in-Ok.is ends c.leave.ensures.left.1 c.leave.ensures.left.2 c.data_closed.ensures.now)

pub returns-in-Err-clause-drives : goal.returns-in-Err-clause-drives
returns-in-Err-clause-drives g c none =
    let ended = c.drive_end-ended in
    let history = g.P.Ports.history in
    let channel = channel_at g.P.Stream.Read.remaining g.P.Stream.Write.contents in
    let stand = client_beside g.R.Read.remaining g.W.Write.contents in
    let first = g.N.Near.client c.args.client.now in
    let old = held (g.N.Near.client ended.new.end) (channel (history ended.new.ports) ended.new.data []) in
    let off = stand old ended.new.control in
    let start = stand (held first (no_channel (history c.args.ports.now))) c.args.control.now in
    let ends = subst (λ l. Ends client_machine Reports (stand (held first l) c.args.control.now) off ended.result) (none (history c.args.ports.now)) ended.ensures.ends in
    let last = g.N.Near.client c.report.new.self in
    record {
      off = old;
      breaks = breaks_off client_machine start refl refl Reports false ended.new.control.failed off ended.result c.in-Err.cause c.in-Err.is ends ended.ensures.why;
      gave_up = subst (λ l. ClientGivesUp (option_map said_of c.report.result) old (held last l)) (c.leave-in-Err.ensures.none (history c.leave-in-Err.new.ports))
          (gave_up old (g.N.Near.client c.cut.new.end) (g.N.Near.client c.data_closed-in-Err.new.self) last
          (channel (history ended.new.ports) c.cut.new.self []) (channel (history c.reset.new.ports) c.reset.new.self [])
          (channel (history c.leave-in-Err.new.ports) c.leave-in-Err.new.self []) _ c.reset.ensures.0 c.leave-in-Err.ensures.left.0
          (c.cut.ensures (history ended.new.ports)) c.reset.ensures.1 c.leave-in-Err.ensures.left.1 c.data_closed-in-Err.ensures.now
          (c.report.ensures.answer, c.report.ensures.taken));
    }
