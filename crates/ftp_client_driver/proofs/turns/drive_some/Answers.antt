use Rattle.std.proofs.Common.{[], refl, subst, Ok, Err, Result}
use Rattle.std.specs.Prelude.{false}
use Rattle.ftp_ports.specs.Machine.{held}
use Rattle.ftp_ports.specs.declared.cause.Cause.{Cause}
use Rattle.ftp_driver.proofs.Driven.{breaks_off}
use Rattle.ftp_driver.specs.Calling.{Ends, TurnsTo}
use Rattle.ftp_driver.specs.Standing.{channel_at}
use Rattle.ftp_operation.specs.declared.answer.Answer.{Answer}
use Rattle.ftp_client_driver.proofs.Ending.{drove, ends_from, finishes, gave_up}
use Rattle.ftp_client_driver.specs.Driving.{Reports}
use Rattle.ftp_client_driver.specs.Side.{client_beside, client_machine}
use Rattle.ftp_client_driver.proofs.turns.drive_some.Goals as goal

pub returns-in-Over-clause-drives : goal.returns-in-Over-clause-drives
returns-in-Over-clause-drives g c start unwritten untold first =
    let turned = c.drive_on-turned in
    let history = g.P.Ports.history in
    let channel = channel_at g.P.Stream.Read.remaining g.P.Stream.Write.contents in
    let stand = client_beside g.R.Read.remaining g.W.Write.contents in
    let old = stand (held (g.N.Near.client c.args.client.now) (channel (history c.args.ports.now) c.args.data.now [])) c.args.control.now in
    let off = stand (held (g.N.Near.client turned.new.end) (channel (history turned.new.ports) turned.new.data [])) turned.new.control in
    let ends : Ends client_machine Reports old off (Ok c.in-Over.answer) =
    subst (λ t. TurnsTo client_machine Reports c.args.most old off (Ok t)) c.in-Over.is
    (subst (λ r. TurnsTo client_machine Reports c.args.most old off r) c.in-Ok.is turned.ensures.turns) in
    drove start off _ _ (Ok c.in-Over.answer) c.in-Over.answer c.leave.ensures.left.0 unwritten untold refl (ends_from start old off (Ok c.in-Over.answer) first ends)
    c.leave.ensures.left.1 c.leave.ensures.left.2 c.data_closed.ensures.now

pub returns-in-Later-clause-drives : goal.returns-in-Later-clause-drives
returns-in-Later-clause-drives g c = rw c.in-Later.is at (rw c.in-Ok.is at c.drive_on-turned.ensures.turns)

pub returns-in-More-clause-drives : goal.returns-in-More-clause-drives
returns-in-More-clause-drives g c = rw c.in-More.is at (rw c.in-Ok.is at c.drive_on-turned.ensures.turns)

pub returns-in-Err-clause-drives : goal.returns-in-Err-clause-drives
returns-in-Err-clause-drives g c start unwritten untold first =
    let turned = c.drive_on-turned in
    let history = g.P.Ports.history in
    let channel = channel_at g.P.Stream.Read.remaining g.P.Stream.Write.contents in
    let stand = client_beside g.R.Read.remaining g.W.Write.contents in
    let old = stand (held (g.N.Near.client c.args.client.now) (channel (history c.args.ports.now) c.args.data.now [])) c.args.control.now in
    let end = held (g.N.Near.client turned.new.end) (channel (history turned.new.ports) turned.new.data []) in
    let off = stand end turned.new.control in
    let failed : Result (Answer g.row.A.Denot) Cause = Err c.in-Err.cause in
    let ends : Ends client_machine Reports old off failed =
    subst (λ r. TurnsTo client_machine Reports c.args.most old off r) c.in-Err.is turned.ensures.turns in
    record {
      off = end;
      breaks = breaks_off client_machine start unwritten untold Reports false turned.new.control.failed off failed c.in-Err.cause refl
          (ends_from start old off failed first ends) (rw c.in-Err.is at turned.ensures.why);
      gave_up = gave_up end (g.N.Near.client c.cut.new.end) (g.N.Near.client c.data_closed-in-Err.new.self) (g.N.Near.client c.report.new.self)
          (channel (history turned.new.ports) c.cut.new.self []) (channel (history c.reset.new.ports) c.reset.new.self [])
          (channel (history c.leave-in-Err.new.ports) c.leave-in-Err.new.self []) _ c.reset.ensures.0 c.leave-in-Err.ensures.left.0
          (c.cut.ensures (history turned.new.ports)) c.reset.ensures.1 c.leave-in-Err.ensures.left.1 c.data_closed-in-Err.ensures.now
          (c.report.ensures.answer, c.report.ensures.taken);
    }

pub returns-in-Over-clause-made : goal.returns-in-Over-clause-made
returns-in-Over-clause-made g c =
    let turned = c.drive_on-turned in
    let history = g.P.Ports.history in
    let channel = channel_at g.P.Stream.Read.remaining g.P.Stream.Write.contents in
    let stand = client_beside g.R.Read.remaining g.W.Write.contents in
    let old = stand (held (g.N.Near.client c.args.client.now) (channel (history c.args.ports.now) c.args.data.now [])) c.args.control.now in
    let off = stand (held (g.N.Near.client turned.new.end) (channel (history turned.new.ports) turned.new.data [])) turned.new.control in
    let ends : Ends client_machine Reports old off (Ok c.in-Over.answer) =
    subst (λ t. TurnsTo client_machine Reports c.args.most old off (Ok t)) c.in-Over.is
    (subst (λ r. TurnsTo client_machine Reports c.args.most old off r) c.in-Ok.is turned.ensures.turns) in
    finishes old off _ _ c.in-Over.answer c.leave.ensures.left.0 ends c.leave.ensures.left.1 c.leave.ensures.left.2 c.data_closed.ensures.now

pub returns-in-Later-clause-made : goal.returns-in-Later-clause-made
returns-in-Later-clause-made g c = rw c.in-Later.is at (rw c.in-Ok.is at c.drive_on-turned.ensures.turns)

pub returns-in-More-clause-made : goal.returns-in-More-clause-made
returns-in-More-clause-made g c = rw c.in-More.is at (rw c.in-Ok.is at c.drive_on-turned.ensures.turns)

pub returns-in-Err-clause-made : goal.returns-in-Err-clause-made
returns-in-Err-clause-made g c =
    let turned = c.drive_on-turned in
    let history = g.P.Ports.history in
    let channel = channel_at g.P.Stream.Read.remaining g.P.Stream.Write.contents in
    let stand = client_beside g.R.Read.remaining g.W.Write.contents in
    let end = held (g.N.Near.client turned.new.end) (channel (history turned.new.ports) turned.new.data []) in
    record {
      off = stand end turned.new.control;
      fails = rw c.in-Err.is at turned.ensures.turns;
      why = rw c.in-Err.is at turned.ensures.why;
      stays = refl;
      gave_up = gave_up end (g.N.Near.client c.cut.new.end) (g.N.Near.client c.data_closed-in-Err.new.self) (g.N.Near.client c.report.new.self)
          (channel (history turned.new.ports) c.cut.new.self []) (channel (history c.reset.new.ports) c.reset.new.self [])
          (channel (history c.leave-in-Err.new.ports) c.leave-in-Err.new.self []) _ c.reset.ensures.0 c.leave-in-Err.ensures.left.0
          (c.cut.ensures (history turned.new.ports)) c.reset.ensures.1 c.leave-in-Err.ensures.left.1 c.data_closed-in-Err.ensures.now
          (c.report.ensures.answer, c.report.ensures.taken);
    }
