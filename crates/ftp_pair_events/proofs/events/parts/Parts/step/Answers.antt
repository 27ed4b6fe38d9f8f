use Rattle.std.proofs.Common.{◌≡◌, sym, ap, subst}
use Rattle.std.specs.Prelude.{IfOk}
use Rattle.laws_world.specs.Events.{can_happen}
use Rattle.ftp_pair_events.specs.events.Happening.{event_of}
use Rattle.ftp_pair_events.specs.events.Shown.{shown}
use Rattle.ftp_pair_events.proofs.events.Whole.{stepped, stepped_on}
use Rattle.ftp_pair_events.specs.events.Calm.{Counted, most_in}
use Rattle.ftp_pair_events.proofs.events.parts.Parts.step.Goals as goal

pub returns-in-Deliver-clause-ok : goal.returns-in-Deliver-clause-ok
returns-in-Deliver-clause-ok g c = stepped c.step_deliver.result c.args.self.now.calm c.step_deliver.new.self.calm (shown g.N.Near.client g.F.Far.server c.args.self.now) (shown g.N.Near.client g.F.Far.server c.step_deliver.new.self) (ap event_of (sym c.in-Deliver.is)) c.step_deliver.ensures.ok

pub returns-in-Open-clause-ok : goal.returns-in-Open-clause-ok
returns-in-Open-clause-ok g c = stepped_on c.step_open.result c.args.self.now.calm c.step_open.new.self.calm (shown g.N.Near.client g.F.Far.server c.args.self.now) (shown g.N.Near.client g.F.Far.server c.step_open.new.self) (ap event_of (sym c.in-Open.is)) c.step_open.ensures.does

pub returns-in-Refuse-clause-ok : goal.returns-in-Refuse-clause-ok
returns-in-Refuse-clause-ok g c = stepped c.step_refuse.result c.args.self.now.calm c.step_refuse.new.self.calm (shown g.N.Near.client g.F.Far.server c.args.self.now) (shown g.N.Near.client g.F.Far.server c.step_refuse.new.self) (ap event_of (sym c.in-Refuse.is)) c.step_refuse.ensures.ok

pub returns-in-End-clause-ok : goal.returns-in-End-clause-ok
returns-in-End-clause-ok g c = stepped_on c.step_end.result c.args.self.now.calm c.step_end.new.self.calm (shown g.N.Near.client g.F.Far.server c.args.self.now) (shown g.N.Near.client g.F.Far.server c.step_end.new.self) (ap event_of (sym c.in-End.is)) c.step_end.ensures.does

pub returns-in-Break-clause-ok : goal.returns-in-Break-clause-ok
returns-in-Break-clause-ok g c = stepped c.step_break.result c.args.self.now.calm c.step_break.new.self.calm (shown g.N.Near.client g.F.Far.server c.args.self.now) (shown g.N.Near.client g.F.Far.server c.step_break.new.self) (ap event_of (sym c.in-Break.is)) c.step_break.ensures.ok

pub returns-in-EndControl-clause-ok : goal.returns-in-EndControl-clause-ok
returns-in-EndControl-clause-ok g c = stepped_on c.step_end_control.result c.args.self.now.calm c.step_end_control.new.self.calm (shown g.N.Near.client g.F.Far.server c.args.self.now) (shown g.N.Near.client g.F.Far.server c.step_end_control.new.self) (ap event_of (sym c.in-EndControl.is)) c.step_end_control.ensures.does

pub returns-in-Next-clause-ok : goal.returns-in-Next-clause-ok
returns-in-Next-clause-ok g c = stepped c.step_next-possible.result c.args.self.now.calm c.step_next-possible.new.self.calm (shown g.N.Near.client g.F.Far.server c.args.self.now) (shown g.N.Near.client g.F.Far.server c.step_next-possible.new.self) (ap event_of (sym c.in-Next.is)) c.step_next-possible.ensures.ok

pub returns-in-Upload-clause-ok : goal.returns-in-Upload-clause-ok
returns-in-Upload-clause-ok g c = stepped c.step_upload-possible.result c.args.self.now.calm c.step_upload-possible.new.self.calm (shown g.N.Near.client g.F.Far.server c.args.self.now) (shown g.N.Near.client g.F.Far.server c.step_upload-possible.new.self) (ap event_of (sym c.in-Upload.is)) c.step_upload-possible.ensures.ok

pub returns-in-Deliver-clause-counted : goal.returns-in-Deliver-clause-counted
returns-in-Deliver-clause-counted g c = subst (λ e. Counted (most_in (event_of e)) g.N.Near.client g.F.Far.server c.args.self.now c.step_deliver.new.self) (sym c.in-Deliver.is) c.step_deliver.ensures.counted

pub returns-in-Open-clause-counted : goal.returns-in-Open-clause-counted
returns-in-Open-clause-counted g c = subst (λ e. Counted (most_in (event_of e)) g.N.Near.client g.F.Far.server c.args.self.now c.step_open.new.self) (sym c.in-Open.is) c.step_open.ensures.counted

pub returns-in-Refuse-clause-counted : goal.returns-in-Refuse-clause-counted
returns-in-Refuse-clause-counted g c = subst (λ e. Counted (most_in (event_of e)) g.N.Near.client g.F.Far.server c.args.self.now c.step_refuse.new.self) (sym c.in-Refuse.is) c.step_refuse.ensures.counted

pub returns-in-End-clause-counted : goal.returns-in-End-clause-counted
returns-in-End-clause-counted g c = subst (λ e. Counted (most_in (event_of e)) g.N.Near.client g.F.Far.server c.args.self.now c.step_end.new.self) (sym c.in-End.is) c.step_end.ensures.counted

pub returns-in-Break-clause-counted : goal.returns-in-Break-clause-counted
returns-in-Break-clause-counted g c = subst (λ e. Counted (most_in (event_of e)) g.N.Near.client g.F.Far.server c.args.self.now c.step_break.new.self) (sym c.in-Break.is) c.step_break.ensures.counted

pub returns-in-EndControl-clause-counted : goal.returns-in-EndControl-clause-counted
returns-in-EndControl-clause-counted g c = subst (λ e. Counted (most_in (event_of e)) g.N.Near.client g.F.Far.server c.args.self.now c.step_end_control.new.self) (sym c.in-EndControl.is) c.step_end_control.ensures.counted

pub returns-in-Next-clause-counted : goal.returns-in-Next-clause-counted
returns-in-Next-clause-counted g c = subst (λ e. Counted (most_in (event_of e)) g.N.Near.client g.F.Far.server c.args.self.now c.step_next-possible.new.self) (sym c.in-Next.is) c.step_next-possible.ensures.counted

pub returns-in-Upload-clause-counted : goal.returns-in-Upload-clause-counted
returns-in-Upload-clause-counted g c = subst (λ e. Counted (most_in (event_of e)) g.N.Near.client g.F.Far.server c.args.self.now c.step_upload-possible.new.self) (sym c.in-Upload.is) c.step_upload-possible.ensures.counted

pub returns-in-Deliver-clause-possible : goal.returns-in-Deliver-clause-possible
returns-in-Deliver-clause-possible g c = subst (λ e. IfOk c.step_deliver.result (λ possible. possible ≡ can_happen (event_of e) (shown g.N.Near.client g.F.Far.server c.args.self.now))) (sym c.in-Deliver.is) c.step_deliver.ensures.possible

pub returns-in-Open-clause-possible : goal.returns-in-Open-clause-possible
returns-in-Open-clause-possible g c = subst (λ e. c.step_open.result ≡ can_happen (event_of e) (shown g.N.Near.client g.F.Far.server c.args.self.now)) (sym c.in-Open.is) c.step_open.ensures.possible

pub returns-in-Refuse-clause-possible : goal.returns-in-Refuse-clause-possible
returns-in-Refuse-clause-possible g c = subst (λ e. IfOk c.step_refuse.result (λ possible. possible ≡ can_happen (event_of e) (shown g.N.Near.client g.F.Far.server c.args.self.now))) (sym c.in-Refuse.is) c.step_refuse.ensures.possible

pub returns-in-End-clause-possible : goal.returns-in-End-clause-possible
returns-in-End-clause-possible g c = subst (λ e. c.step_end.result ≡ can_happen (event_of e) (shown g.N.Near.client g.F.Far.server c.args.self.now)) (sym c.in-End.is) c.step_end.ensures.possible

pub returns-in-Break-clause-possible : goal.returns-in-Break-clause-possible
returns-in-Break-clause-possible g c = subst (λ e. IfOk c.step_break.result (λ possible. possible ≡ can_happen (event_of e) (shown g.N.Near.client g.F.Far.server c.args.self.now))) (sym c.in-Break.is) c.step_break.ensures.possible

pub returns-in-EndControl-clause-possible : goal.returns-in-EndControl-clause-possible
returns-in-EndControl-clause-possible g c = subst (λ e. c.step_end_control.result ≡ can_happen (event_of e) (shown g.N.Near.client g.F.Far.server c.args.self.now)) (sym c.in-EndControl.is) c.step_end_control.ensures.possible

pub returns-in-Next-clause-possible : goal.returns-in-Next-clause-possible
returns-in-Next-clause-possible g c = subst (λ e. IfOk c.step_next-possible.result (λ possible. possible ≡ can_happen (event_of e) (shown g.N.Near.client g.F.Far.server c.args.self.now))) (sym c.in-Next.is) c.step_next-possible.ensures.possible

pub returns-in-Upload-clause-possible : goal.returns-in-Upload-clause-possible
returns-in-Upload-clause-possible g c = subst (λ e. IfOk c.step_upload-possible.result (λ possible. possible ≡ can_happen (event_of e) (shown g.N.Near.client g.F.Far.server c.args.self.now))) (sym c.in-Upload.is) c.step_upload-possible.ensures.possible
