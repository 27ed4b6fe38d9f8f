-- The actions of drives of which both were told that the control connection ended.
use Rattle.std.proofs.Common.{◌≡◌, List, [], ◌∷◌, ◌++◌, length, Option, Some, option_to_list, refl, sym, ap, ap₂, subst, ◌∙◌, append-nil}
use Rattle.ftp_ports.specs.Asking.{Asked, Shut}
use Rattle.ftp_ports.specs.Actions.{Action, Done, Ended, Led, Other, Stand}
use Rattle.ftp_ports.specs.Machine.{Closed, Left}
use Rattle.ftp_client_driver.specs.Side.{Begun, Report, client_machine, client_side}
use Rattle.ftp_client_model.specs.Calls.{control_end, report_of}
use Rattle.ftp_operation.specs.Answer.{Said}
use Rattle.ftp_server_model.specs.Machine.{ReadingExists}
use Rattle.ftp_tree.specs.Tree.{Table}
use Rattle.laws_world.specs.Agreement.{Agrees, Order, Single}
use Rattle.laws_world.specs.Claims.{AgreesAlways, state_of}
use Rattle.laws_drivers.specs.control.Alone.{ClientAttends, ClientIsCalm, IsAskingAlone, IsServingAlone, ServerAttends, ServerIsCalm, begun_in, reports_in}
use Rattle.laws_drivers.specs.control.Between.{Between, Can, Client, Happened, Near, Server, Turn, client_actions, server_actions}
use Rattle.laws_drivers.specs.control.Claims.{Did}
use Rattle.laws_drivers.specs.control.Over.{AreMidst, AskedToItsEnd, DrivesLostAgree, actions_in, orders_at_moment}
use Rattle.laws_drivers.specs.events.Answers.{actions_of_server, answers_of}
use Rattle.laws_drivers.specs.control.Touches.{touch_in}
use Rattle.laws_drivers.proofs.control.Concluding.{parting_agrees_by}
use Rattle.laws_drivers.proofs.control.Ending.{Goes, answers_are, answers_go, goes_then, midst_begins, midst_reports, orders_are, served_before, starts_so}

-- all but the last action of the client
unasked : List Turn → List Turn
unasked [] = []
unasked (Client action ∷ before) = before
unasked (Server action ∷ before) = Server action ∷ unasked before

-- of its actions
rest_asked : List (Action client_side) → List (Action client_side)
rest_asked [] = []
rest_asked (action ∷ before) = before

-- the last action does nothing between the ends
IsStill : List (Action client_side) → Type 0
IsStill [] = Unit {0}
IsStill (action ∷ before) = (old new : Between) → Can Near (touch_in action) old new → new ≡ old

-- the client did the rest
unasked_client : (turns : List Turn) → client_actions (unasked turns) ≡ rest_asked (client_actions turns)
unfolding unasked rest_asked
unasked_client [] = refl
unasked_client (Client action ∷ before) = refl
unasked_client (Server action ∷ before) = unasked_client before

-- the server did the same
unasked_server : (turns : List Turn) → server_actions (unasked turns) ≡ server_actions turns
unfolding unasked
unasked_server [] = refl
unasked_server (Client action ∷ before) = refl
unasked_server (Server action ∷ before) = ap (λ l. action ∷ l) (unasked_server before)

-- where it did nothing between, they happened without it
unasked_happened : (turns : List Turn) (between : Between) → IsStill (client_actions turns) → Happened turns between → Happened (unasked turns) between
unfolding unasked IsStill
unasked_happened [] between still happened = happened
unasked_happened (Client action ∷ before) between still happened = subst (Happened before) (sym (still happened.0 between happened.2)) happened.1
unasked_happened (Server action ∷ before) between still happened = (happened.0, unasked_happened before happened.0 still happened.1, happened.2)

-- turns without some of the client's last actions
record Without (rest : List (Action client_side)) (first : List Turn) (between : Between) : Type 0 where
  pub turns : List Turn
  pub servers : server_actions turns ≡ server_actions first
  pub clients : client_actions turns ≡ rest
  pub happened : Happened turns between

-- and without the next one
without : (action : Action client_side) (rest : List (Action client_side)) (first : List Turn) (between : Between)
    → ((old new : Between) → Can Near (touch_in action) old new → new ≡ old) → Without (action ∷ rest) first between → Without rest first between
unfolding rest_asked IsStill
without action rest first between still w = record {
  turns = unasked w.turns;
  servers = unasked_server w.turns ∙ w.servers;
  clients = unasked_client w.turns ∙ ap rest_asked w.clients;
  happened = unasked_happened w.turns between (subst IsStill (sym w.clients) still) w.happened;
}

-- what the client had done before it was told
record Lost (rest : List (Action client_side)) (turns : List Turn) (between : Between) (start told : Stand client_side) : Type 0 where
  pub turns_before : List Turn
  pub servers : server_actions turns_before ≡ server_actions turns
  pub happened : Happened turns_before between
  pub midst : List (Action client_side)
  pub clients : client_actions turns_before ≡ midst ++ rest
  pub is_midst : AreMidst midst
  pub stand : Stand client_side
  pub goes : Goes IsAskingAlone ClientIsCalm ClientAttends midst start stand
  pub ends : Done Ended stand told

-- the end of the client is left out of the order
lost_before : (actions : List (Action client_side)) (asked : Asked) (said : Option Said) (rest : List (Action client_side)) (turns : List Turn) (between : Between)
    (start told : Stand client_side) (led : Led actions start told) → AskedToItsEnd actions start told led → asked ≡ Shut
    → client_actions turns ≡ (Other Closed ∷ Other (Left asked) ∷ Other (Report said) ∷ []) ++ actions ++ rest → Happened turns between
    → Lost rest turns between start told
lost_before (Ended ∷ midst) asked said rest turns between start told led alone shut is happened =
    let behind : List (Action client_side) = midst ++ rest in
    let all : Without (Other Closed ∷ Other (Left asked) ∷ Other (Report said) ∷ Ended ∷ behind) turns between =
    record { turns = turns; servers = refl; clients = is; happened = happened } in
    let still = subst (λ a. (old new : Between) → Can Near (touch_in {end = client_machine} (Other (Left a))) old new → new ≡ old)
    (sym shut) (λ old new can. can) in
    let one = without (Other Closed) (Other (Left asked) ∷ Other (Report said) ∷ Ended ∷ behind) turns between (λ old new can. can) all in
    let two = without (Other (Left asked)) (Other (Report said) ∷ Ended ∷ behind) turns between still one in
    let three = without (Other (Report said)) (Ended ∷ behind) turns between (λ old new can. can) two in
    let four = without Ended behind turns between (λ old new can. can) three in
    record {
      turns_before = four.turns;
      servers = four.servers;
      happened = four.happened;
      midst = midst;
      clients = four.clients;
      is_midst = alone.1;
      stand = led.0;
      goes = (led.1, alone.0);
      ends = led.2;
    }
lost_before actions asked said rest turns between start told led alone shut is happened = absurd alone

-- what both did before they were told agrees, and so does what the end makes of it
pub drives_lost_agree_by : AgreesAlways → ReadingExists → DrivesLostAgree
drives_lost_agree_by always reading b fair moment timed asked op answer server over =
    let a = over.last in
    let led = a.drove.did.sums.led in
    let before = actions_in asked over.client_start over.mid over.answered in
    let rest : List (Action client_side) = Other (Begun op) ∷ before in
    let s = served_before (actions_of_server over.drove) over.turns over.between over.server_start server over.drove.did.sums.led
    over.served over.server_is over.happened in
    let l = lost_before a.drove.did.actions a.drove.asked (Some answer) rest s.turns_before over.between a.begun led.1.1.0 led.1.1.1
    over.loses.asks over.loses.shut
    (s.clients ∙ over.client_is) s.happened in
    let attends = starts_so IsAskingAlone ClientIsCalm ClientAttends l.midst a.begun l.stand l.goes in
    let first = answers_go asked over.client_start over.mid over.answered in
    let begun : Goes IsAskingAlone ClientIsCalm ClientAttends rest over.client_start a.begun =
    ((over.mid, first.0, a.begins), (first.1, tt, over.loses.calm, attends)) in
    let all = goes_then IsAskingAlone ClientIsCalm ClientAttends l.midst rest over.client_start a.begun l.stand l.goes begun in
    let client = subst (λ d. Goes IsAskingAlone ClientIsCalm ClientAttends d over.client_start l.stand) (sym l.clients) all in
    let serves = subst (λ d. Goes IsServingAlone ServerIsCalm ServerAttends d over.server_start s.served) (sym l.servers) s.goes in
    let did : Did b l.turns_before over.between s.served l.stand = record {
      server_start = over.server_start;
      client_start = over.client_start;
      begins = over.begins;
      happened = l.happened;
      server_led = serves.0;
      client_led = client.0;
      serves = serves.1;
      asks = client.1;
    } in
    let agree = parting_agrees_by always reading b fair moment timed l.turns_before over.between s.served l.stand did in
    let orders : begun_in moment (client_actions l.turns_before) ≡ orders_at_moment moment ((op, answer) ∷ asked) =
    ap (begun_in moment) l.clients ∙ midst_begins moment l.midst rest l.is_midst
    ∙ ap (λ o. o ++ Single op moment ∷ []) (orders_are moment asked over.client_start over.mid over.answered) in
    let told : option_to_list (report_of (control_end l.stand.owner.end.view)) ≡ answer ∷ [] =
    ap (λ v. option_to_list (report_of v)) (sym l.ends.cut.0.0) ∙ ap option_to_list (sym led.1.1.2.0.0.0) in
    let answers : reports_in (client_actions l.turns_before) ++ option_to_list (report_of (control_end l.stand.owner.end.view))
    ≡ answers_of ((op, answer) ∷ asked) =
    ap₂ (λ r o. r ++ o) (ap reports_in l.clients ∙ midst_reports l.midst rest l.is_midst ∙ append-nil (reports_in before)
    ∙ answers_are asked over.client_start over.mid over.answered) told in
    let orders_now : List Order = orders_at_moment moment ((op, answer) ∷ asked) in
    let answers_now : List Said = answers_of ((op, answer) ∷ asked) in
    let said : List Said = reports_in (client_actions l.turns_before) ++ option_to_list (report_of (control_end l.stand.owner.end.view)) in
    let table : Table = s.served.owner.end.server.view.session.table in (
      agree.0,
      agree.1,
      subst (λ (t : Table). Agrees (state_of b) orders_now agree.0 (Some (length agree.0)) answers_now t) (sym s.table)
          (subst (λ (r : List Said). Agrees (state_of b) orders_now agree.0 (Some (length agree.0)) r table) answers
          (subst (λ (o : List Order). Agrees (state_of b) o agree.0 (Some (length agree.0)) said table) orders agree.2)),
    )
