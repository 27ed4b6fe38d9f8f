-- A server's drive and a client's last one, both of which broke off.
use Rattle.std.proofs.Common.{◌≡◌, List, [], ◌∷◌, ◌++◌, length, Some, option_to_list, refl, sym, ap, ap₂, subst, ◌∙◌, append-nil}
use Rattle.ftp_ports.specs.Actions.{Action, Other, Said as Says}
use Rattle.ftp_client_driver.specs.Side.{Begun, client_side}
use Rattle.ftp_client_model.specs.Calls.{control_end, report_of}
use Rattle.ftp_operation.specs.Answer.{Said}
use Rattle.ftp_server_model.specs.Calls as far
use Rattle.ftp_server_model.specs.Machine.{ReadingExists}
use Rattle.ftp_server_model.specs.View.{View as Far}
use Rattle.ftp_tree.specs.Tree.{Table}
use Rattle.laws_world.specs.Agreement.{Agrees, Order, Single}
use Rattle.laws_world.specs.Claims.{AgreesAlways, state_of}
use Rattle.laws_drivers.specs.control.Alone.{ClientAttends, ClientIsCalm, IsAskingAlone, IsServingAlone, ServerAttends, ServerIsCalm, begun_in, reports_in}
use Rattle.laws_drivers.specs.control.Between.{client_actions}
use Rattle.laws_drivers.specs.control.Broken.{DrivesBrokenAgree, said_last}
use Rattle.laws_drivers.specs.control.Claims.{Did}
use Rattle.laws_drivers.specs.control.Over.{actions_in, orders_at_moment}
use Rattle.laws_drivers.specs.events.Answers.{answers_of}
use Rattle.laws_drivers.proofs.control.Breaking.{clients_are_cut, servers_are_cut}
use Rattle.laws_drivers.proofs.control.Concluding.{parting_agrees_by}
use Rattle.laws_drivers.proofs.control.Ending.{Goes, answers_are, answers_go, goes_then, midst_begins, midst_reports, orders_are, starts_so}

-- a server that is told of the end keeps the map
end_keeps : (v : Far) → (far.control_end v).session.table ≡ v.session.table
unfolding far.control_end
end_keeps v = refl

-- by agreement of a world, where the control connection ends for both
pub drives_broken_agree_by : AgreesAlways → ReadingExists → DrivesBrokenAgree
drives_broken_agree_by always reading b fair moment timed asked op answer server over =
    let s = servers_are_cut over.server_cause over.server_failed over.server_start server over.server_broke over.serves over.server_calm in
    let c = clients_are_cut over.client_cause over.client_failed over.begun over.client (Some answer) over.client_broke over.asks in
    let midst : List (Action client_side) = Says (said_last over.client_broke.breaks) ∷ over.client_broke.breaks.actions in
    let before = actions_in asked over.client_start over.mid over.answered in
    let rest : List (Action client_side) = Other (Begun op) ∷ before in
    let last : Goes IsAskingAlone ClientIsCalm ClientAttends midst over.begun c.stood = (c.led, c.alone) in
    let attends = starts_so IsAskingAlone ClientIsCalm ClientAttends midst over.begun c.stood last in
    let first = answers_go asked over.client_start over.mid over.answered in
    let begun : Goes IsAskingAlone ClientIsCalm ClientAttends rest over.client_start over.begun =
    ((over.mid, first.0, over.starts), (first.1, tt, over.client_calm, attends)) in
    let all = goes_then IsAskingAlone ClientIsCalm ClientAttends midst rest over.client_start over.begun c.stood last begun in
    let client = subst (λ d. Goes IsAskingAlone ClientIsCalm ClientAttends d over.client_start c.stood) (sym over.client_is) all in
    let serves = subst (λ d. Goes IsServingAlone ServerIsCalm ServerAttends d over.server_start s.served) (sym over.server_is) (s.led, s.alone) in
    let did : Did b over.turns over.between s.served c.stood = record {
      server_start = over.server_start;
      client_start = over.client_start;
      begins = over.begins;
      happened = over.happened;
      server_led = serves.0;
      client_led = client.0;
      serves = serves.1;
      asks = client.1;
    } in
    let agree = parting_agrees_by always reading b fair moment timed over.turns over.between s.served c.stood did in
    let orders_now : List Order = orders_at_moment moment ((op, answer) ∷ asked) in
    let answers_now : List Said = answers_of ((op, answer) ∷ asked) in
    let orders : begun_in moment (client_actions over.turns) ≡ orders_now =
    ap (begun_in moment) over.client_is ∙ midst_begins moment midst rest (over.midst, tt)
    ∙ ap (λ o. o ++ Single op moment ∷ []) (orders_are moment asked over.client_start over.mid over.answered) in
    let told : option_to_list (report_of (control_end c.stood.owner.end.view)) ≡ answer ∷ [] = ap option_to_list (sym c.told) in
    let said : List Said = reports_in (client_actions over.turns) ++ option_to_list (report_of (control_end c.stood.owner.end.view)) in
    let answers : said ≡ answers_now =
    ap₂ (λ r o. r ++ o) (ap reports_in over.client_is ∙ midst_reports midst rest (over.midst, tt) ∙ append-nil (reports_in before)
    ∙ answers_are asked over.client_start over.mid over.answered) told in
    let table : Table = s.served.owner.end.server.view.session.table in
    let kept : table ≡ server.owner.end.server.view.session.table =
    sym (end_keeps s.served.owner.end.server.view) ∙ sym (ap (λ (v : Far). v.session.table) s.told) in (
      agree.0,
      agree.1,
      subst (λ (t : Table). Agrees (state_of b) orders_now agree.0 (Some (length agree.0)) answers_now t) kept
          (subst (λ (r : List Said). Agrees (state_of b) orders_now agree.0 (Some (length agree.0)) r table) answers
          (subst (λ (o : List Order). Agrees (state_of b) o agree.0 (Some (length agree.0)) said table) orders agree.2)),
    )
