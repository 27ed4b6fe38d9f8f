use Rattle.std.proofs.Common.{[], refl, subst}
use Rattle.std.specs.Prelude.{true}
use Rattle.ftp_ports.specs.Channel.{no_channel}
use Rattle.ftp_ports.specs.Machine.{held}
use Rattle.ftp_driver.proofs.Driven.{breaks_off}
use Rattle.ftp_driver.specs.Calling.{Ends}
use Rattle.ftp_server_driver.proofs.alone.Ending.{drove}
use Rattle.ftp_driver.specs.Standing.{channel_at}
use Rattle.ftp_server_driver.specs.alone.Driving.{IsFoundDone}
use Rattle.ftp_server_driver.specs.alone.Side.{beside, server_machine, timed}
use Rattle.ftp_server_driver.proofs.alone.drive.drive_server.Goals as goal

pub returns-in-Ok : goal.returns-in-Ok
returns-in-Ok g c =
    let ended = c.drive_end-ended in
    let history = g.P.Ports.history in
    let stand = beside g.R.Read.remaining g.W.Write.contents in
    let here = timed g.F.Far.server g.C.Watch.told in
    let first = here c.args.clocked.now in
    let channel = channel_at g.P.Stream.Read.remaining g.P.Stream.Write.contents (history ended.new.ports) ended.new.data [] in
    let off = stand (held (here ended.new.end) channel) ended.new.control in
    let ends = subst (λ l. Ends server_machine (λ over old new. IsFoundDone old new) (stand (held first l) c.args.control.now) off ended.result)
    (c.new-data.ensures (history c.args.ports.now)) ended.ensures.ends in
    drove (stand (held first (no_channel (history c.args.ports.now))) c.args.control.now) off _ ended.result c.in-Ok.field-0 c.finish.ensures.0 refl refl c.in-Ok.is ends
    c.finish.ensures.1 c.finish.ensures.2

pub returns-in-Err : goal.returns-in-Err
returns-in-Err g c =
    let ended = c.drive_end-ended in
    let history = g.P.Ports.history in
    let stand = beside g.R.Read.remaining g.W.Write.contents in
    let here = timed g.F.Far.server g.C.Watch.told in
    let first = here c.args.clocked.now in
    let channel = channel_at g.P.Stream.Read.remaining g.P.Stream.Write.contents (history ended.new.ports) in
    let off = stand (held (here ended.new.end) (channel ended.new.data [])) ended.new.control in
    let ends = subst (λ l. Ends server_machine (λ over old new. IsFoundDone old new) (stand (held first l) c.args.control.now) off ended.result)
    (c.new-data.ensures (history c.args.ports.now)) ended.ensures.ends in
    record {
      off = off;
      breaks = breaks_off server_machine (stand (held first (no_channel (history c.args.ports.now))) c.args.control.now) refl refl (λ over old new. IsFoundDone old new)
          true ended.new.control.failed off ended.result c.in-Err.cause c.in-Err.is ends ended.ensures.why;
      stays = refl;
      cut = held (here c.cut.new.end) (channel c.cut.new.self []);
      is_cut = c.cut.ensures (history ended.new.ports);
      end = refl;
      asked = c.finish-in-Err.ensures.0;
      left = c.finish-in-Err.ensures.1;
      fair = c.finish-in-Err.ensures.2;
    }
