use Rattle.std.proofs.Common.{[], refl, subst, Ok, Err, Result}
use Rattle.std.specs.Prelude.{⊤, true}
use Rattle.ftp_ports.specs.Machine.{held}
use Rattle.ftp_ports.specs.declared.cause.Cause.{Cause}
use Rattle.ftp_driver.proofs.Driven.{breaks_off}
use Rattle.ftp_driver.specs.Calling.{Ends, TurnsTo}
use Rattle.ftp_driver.specs.Standing.{channel_at}
use Rattle.ftp_driver.specs.declared.drive.Turned.TheVariants as Turns
use Rattle.ftp_server_driver.proofs.alone.Ending.{drove, ends_from, finishes}
use Rattle.ftp_server_driver.specs.alone.Driving.{IsFoundDone}
use Rattle.ftp_server_driver.specs.alone.Side.{beside, server_machine, timed}
use Rattle.ftp_server_driver.proofs.alone.turns.drive_some.Goals as goal

pub returns-in-Over-clause-drives : goal.returns-in-Over-clause-drives
returns-in-Over-clause-drives g c start unwritten untold first =
    let turned = c.drive_on-turned in
    let here = timed g.F.Far.server g.C.Watch.told in
    let channel = channel_at g.P.Stream.Read.remaining g.P.Stream.Write.contents in
    let stand = beside g.R.Read.remaining g.W.Write.contents in
    let old = stand (held (here c.args.clocked.now) (channel (g.P.Ports.history c.args.ports.now) c.args.data.now [])) c.args.control.now in
    let off = stand (held (here turned.new.end) (channel (g.P.Ports.history turned.new.ports) turned.new.data [])) turned.new.control in
    let ends : Ends server_machine (λ (over : ⊤) old new. IsFoundDone old new) old off (Ok c.in-Over.over) =
    subst (λ t. TurnsTo server_machine (λ over old new. IsFoundDone old new) c.args.most old off (Ok t)) c.in-Over.is
    (subst (λ r. TurnsTo server_machine (λ over old new. IsFoundDone old new) c.args.most old off r) c.in-Ok.is turned.ensures.turns) in
    drove start off _ (Ok c.in-Over.over) c.in-Over.over c.leave.ensures.left.0 unwritten untold refl (ends_from start old off (Ok c.in-Over.over) first ends)
    c.leave.ensures.left.1 c.leave.ensures.left.2

pub returns-in-Later-clause-drives : goal.returns-in-Later-clause-drives
returns-in-Later-clause-drives g c = rw c.in-Later.is at (rw c.in-Ok.is at c.drive_on-turned.ensures.turns)

pub returns-in-More-clause-drives : goal.returns-in-More-clause-drives
returns-in-More-clause-drives g c = rw c.in-More.is at (rw c.in-Ok.is at c.drive_on-turned.ensures.turns)

pub returns-in-Err-clause-drives : goal.returns-in-Err-clause-drives
returns-in-Err-clause-drives g c start unwritten untold first =
    let turned = c.drive_on-turned in
    let here = timed g.F.Far.server g.C.Watch.told in
    let history = g.P.Ports.history turned.new.ports in
    let channel = channel_at g.P.Stream.Read.remaining g.P.Stream.Write.contents in
    let stand = beside g.R.Read.remaining g.W.Write.contents in
    let old = stand (held (here c.args.clocked.now) (channel (g.P.Ports.history c.args.ports.now) c.args.data.now [])) c.args.control.now in
    let off = stand (held (here turned.new.end) (channel history turned.new.data [])) turned.new.control in
    let failed : Result ⊤ Cause = Err c.in-Err.cause in
    let ends : Ends server_machine (λ (over : ⊤) old new. IsFoundDone old new) old off failed =
    subst (λ r. TurnsTo server_machine (λ over old new. IsFoundDone old new) c.args.most old off r) c.in-Err.is turned.ensures.turns in
    record {
      off = off;
      breaks = breaks_off server_machine start unwritten untold (λ over old new. IsFoundDone old new) true turned.new.control.failed off failed c.in-Err.cause refl
          (ends_from start old off failed first ends) (rw c.in-Err.is at turned.ensures.why);
      stays = refl;
      cut = held (here c.cut.new.end) (channel history c.cut.new.self []);
      is_cut = c.cut.ensures history;
      end = refl;
      asked = c.leave-in-Err.ensures.left.0;
      left = c.leave-in-Err.ensures.left.1;
      fair = c.leave-in-Err.ensures.left.2;
    }

pub returns-in-Over-clause-made : goal.returns-in-Over-clause-made
returns-in-Over-clause-made g c =
    let turned = c.drive_on-turned in
    let here = timed g.F.Far.server g.C.Watch.told in
    let channel = channel_at g.P.Stream.Read.remaining g.P.Stream.Write.contents in
    let stand = beside g.R.Read.remaining g.W.Write.contents in
    let old = stand (held (here c.args.clocked.now) (channel (g.P.Ports.history c.args.ports.now) c.args.data.now [])) c.args.control.now in
    let off = stand (held (here turned.new.end) (channel (g.P.Ports.history turned.new.ports) turned.new.data [])) turned.new.control in
    let ends : Ends server_machine (λ (over : ⊤) old new. IsFoundDone old new) old off (Ok c.in-Over.over) =
    subst (λ t. TurnsTo server_machine (λ over old new. IsFoundDone old new) c.args.most old off (Ok t)) c.in-Over.is
    (subst (λ r. TurnsTo server_machine (λ over old new. IsFoundDone old new) c.args.most old off r) c.in-Ok.is turned.ensures.turns) in
    finishes old off _ c.in-Over.over c.leave.ensures.left.0 ends c.leave.ensures.left.1 c.leave.ensures.left.2

pub returns-in-Later-clause-made : goal.returns-in-Later-clause-made
returns-in-Later-clause-made g c = rw c.in-Later.is at (rw c.in-Ok.is at c.drive_on-turned.ensures.turns)

pub returns-in-More-clause-made : goal.returns-in-More-clause-made
returns-in-More-clause-made g c = rw c.in-More.is at (rw c.in-Ok.is at c.drive_on-turned.ensures.turns)

pub returns-in-Err-clause-made : goal.returns-in-Err-clause-made
returns-in-Err-clause-made g c =
    let turned = c.drive_on-turned in
    let here = timed g.F.Far.server g.C.Watch.told in
    let history = g.P.Ports.history turned.new.ports in
    let channel = channel_at g.P.Stream.Read.remaining g.P.Stream.Write.contents in
    let stand = beside g.R.Read.remaining g.W.Write.contents in
    record {
      off = stand (held (here turned.new.end) (channel history turned.new.data [])) turned.new.control;
      fails = rw c.in-Err.is at turned.ensures.turns;
      why = rw c.in-Err.is at turned.ensures.why;
      stays = refl;
      cut = held (here c.cut.new.end) (channel history c.cut.new.self []);
      is_cut = c.cut.ensures history;
      end = refl;
      asked = c.leave-in-Err.ensures.left.0;
      left = c.leave-in-Err.ensures.left.1;
      fair = c.leave-in-Err.ensures.left.2;
    }
