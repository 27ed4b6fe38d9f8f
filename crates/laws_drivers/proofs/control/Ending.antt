-- The actions of drives that are over, put together.
use Rattle.std.proofs.Common.{◌≡◌, ℕ, List, [], ◌∷◌, ◌++◌, length, None, refl, sym, ap, subst, ◌∙◌}
use Rattle.ftp_ports.specs.Asking.{Shut}
use Rattle.ftp_ports.specs.Actions.{Action, Ended, Heard, Led, Other, Read, Said as Says, Stand}
use Rattle.ftp_ports.specs.Machine.{Aside, Left}
use Rattle.ftp_ports.specs.Side.{Side}
use Rattle.ftp_client_driver.specs.Side.{Begun, Reporting, client_side}
use Rattle.ftp_operation.specs.Answer.{Said}
use Rattle.ftp_operation.specs.declared.op.Op.{Op}
use Rattle.ftp_server_driver.specs.alone.Side.{server_side}
use Rattle.ftp_server_model.specs.Machine.{ReadingExists}
use Rattle.laws_world.specs.Claims.{AgreesAlways, state_of}
use Rattle.laws_drivers.specs.control.Alone.{ClientAttends, ClientIsCalm, IsAskingAlone, IsServingAlone, ServerAttends, ServerIsCalm, Throughout, begun_in, reports_in}
use Rattle.laws_drivers.specs.control.Between.{Between, Can, Client, Far, Happened, Server, Turn, client_actions, server_actions}
use Rattle.laws_drivers.specs.control.Claims.{Did}
use Rattle.laws_drivers.specs.control.Over.{AreAnswered, AreMidst, DrivesOverAreTheDirectRun, IsAnswerAlone, IsMidst, ServedToItsEnd, actions_in, orders_at_moment}
use Rattle.laws_drivers.specs.control.Touches.{touch_in}
use Rattle.laws_drivers.specs.events.Actions as all
use Rattle.laws_drivers.specs.events.Answers.{actions_of_drive, actions_of_server, answers_of}
use Rattle.laws_drivers.proofs.control.Concluding.{drives_are_the_direct_run_by, ends_keep_the_map}
use Rattle.laws_drivers.proofs.events.Answers as drives
use Rattle.laws_drivers.proofs.events.Answers.{InMidst, answered_free, as_many, direct_same}
use Rattle.laws_drivers.proofs.events.Moments as moments

-- ---- actions after actions

module _ {side : Side} (Is : Action side → Type 0) (Keeps : (old new : side.End) → Type 0) (Stands : side.End → Type 0) where
  -- actions led from here to there, and so it was throughout
  abbrev pub Goes : (actions : List (Action side)) (start now : Stand side) → Type 0
  Goes actions start now = (led : Led actions start now) × Throughout Is Keeps Stands actions start now led

  -- one list after another
  pub goes_then : (later before : List (Action side)) (start mid now : Stand side) → Goes later mid now → Goes before start mid
      → Goes (later ++ before) start now
  goes_then [] before start mid now second first = subst (λ n. Goes before start n) (sym second.0) first
  goes_then (action ∷ later) before start mid now second first =
      let rest = goes_then later before start mid second.0.0 (second.0.1, second.1.0) first in
      ((second.0.0, rest.0, second.0.2), (rest.1, second.1.1, second.1.2, second.1.3))

  -- so it was before the first of them
  pub starts_so : (actions : List (Action side)) (start now : Stand side) → Goes actions start now → Stands start.owner
  starts_so [] start now goes = subst (λ s. Stands s.owner) goes.0 goes.1
  starts_so (action ∷ before) start now goes = starts_so before start goes.0.0 (goes.0.1, goes.1.0)

-- the actions of a client's drives
pub answers_go : (asked : List (Op (List ℕ) × Said)) (start now : Stand client_side) (answered : AreAnswered asked start now)
    → Goes IsAskingAlone ClientIsCalm ClientAttends (actions_in asked start now answered) start now
answers_go [] start now answered = (answered.1, subst (λ (s : Stand client_side). ClientAttends s.owner) (sym answered.1) answered.0)
answers_go (asked ∷ before) start now answered =
    let by = answered.1 in
    let a = by.2 in
    let alone = by.3 in
    let first = answers_go before start by.0 (answered.0, by.1) in
    let drive : Goes IsAskingAlone ClientIsCalm ClientAttends (actions_of_drive a.drove) a.begun now = (a.drove.did.sums.led, alone.asks) in
    let attends = starts_so IsAskingAlone ClientIsCalm ClientAttends (actions_of_drive a.drove) a.begun now drive in
    let begun : Goes IsAskingAlone ClientIsCalm ClientAttends (Other (Begun asked.0) ∷ actions_in before start by.0 (answered.0, by.1)) start a.begun =
    ((by.0, first.0, a.begins), (first.1, tt, alone.calm, attends)) in
    goes_then IsAskingAlone ClientIsCalm ClientAttends (actions_of_drive a.drove) _ start a.begun now drive begun

-- ---- what they began and reported

-- actions in the midst of a drive over control alone are such where data connections may be wanted, too
midst_one : (action : Action client_side) → IsMidst action → all.IsMidst action
midst_one (Heard octets) is = tt
midst_one (Says octets) is = tt
midst_one (Read octets) is = tt
midst_one (Other (Aside (Reporting None))) is = tt
midst_one action is = absurd is

midst_all : (actions : List (Action client_side)) → AreMidst actions → all.AreMidst actions
midst_all [] midst = tt
midst_all (action ∷ before) midst = (midst_all before midst.0, midst_one action midst.1)

in_midst : InMidst IsAnswerAlone
in_midst op answer old new a alone = midst_all a.drove.did.actions alone.midst

-- they begin none
pub midst_begins : (moment : ℕ) (actions before : List (Action client_side)) → AreMidst actions → begun_in moment (actions ++ before) ≡ begun_in moment before
midst_begins moment actions before midst = moments.midst_begins (λ n. moment) actions before (midst_all actions midst)

-- and report none
pub midst_reports : (actions before : List (Action client_side)) → AreMidst actions → reports_in (actions ++ before) ≡ reports_in before
midst_reports actions before midst = moments.midst_reports actions before (midst_all actions midst)

-- so the drives begin the operations
pub orders_are : (moment : ℕ) (asked : List (Op (List ℕ) × Said)) (start now : Stand client_side) (answered : AreAnswered asked start now)
    → begun_in moment (actions_in asked start now answered) ≡ orders_at_moment moment asked
orders_are moment asked start now answered = drives.orders_are IsAnswerAlone in_midst (λ n. moment) asked start now answered.1

-- and report their answers
pub answers_are : (asked : List (Op (List ℕ) × Said)) (start now : Stand client_side) (answered : AreAnswered asked start now)
    → reports_in (actions_in asked start now answered) ≡ answers_of asked
answers_are asked start now answered = drives.answers_are IsAnswerAlone in_midst asked start now answered.1

-- ---- without the server's last action

-- all but the last action of the server
pub unturned : List Turn → List Turn
unturned [] = []
unturned (Server action ∷ before) = before
unturned (Client action ∷ before) = Client action ∷ unturned before

-- of its actions
abbrev pub rest_of : List (Action server_side) → List (Action server_side)
rest_of [] = []
rest_of (action ∷ before) = before

-- the last action does nothing between the ends
abbrev pub IsIdle : List (Action server_side) → Type 0
IsIdle [] = Unit {0}
IsIdle (action ∷ before) = (old new : Between) → Can Far (touch_in action) old new → new ≡ old

-- the server did the rest
pub unturned_server : (turns : List Turn) → server_actions (unturned turns) ≡ rest_of (server_actions turns)
unfolding unturned
unturned_server [] = refl
unturned_server (Server action ∷ before) = refl
unturned_server (Client action ∷ before) = unturned_server before

-- the client did the same
pub unturned_client : (turns : List Turn) → client_actions (unturned turns) ≡ client_actions turns
unfolding unturned
unturned_client [] = refl
unturned_client (Server action ∷ before) = refl
unturned_client (Client action ∷ before) = ap (λ l. action ∷ l) (unturned_client before)

-- where it did nothing between, they happened without it
pub unturned_happened : (turns : List Turn) (between : Between) → IsIdle (server_actions turns) → Happened turns between → Happened (unturned turns) between
unfolding unturned
unturned_happened [] between idle happened = happened
unturned_happened (Server action ∷ before) between idle happened = subst (Happened before) (sym (idle happened.0 between happened.2)) happened.1
unturned_happened (Client action ∷ before) between idle happened = (happened.0, unturned_happened before happened.0 idle happened.1, happened.2)

-- ---- a server that served to its end

-- what it had done before that
pub record Served (actions : List (Action server_side)) (turns : List Turn) (between : Between) (start now : Stand server_side) : Type 0 where
  pub turns_before : List Turn
  pub clients : client_actions turns_before ≡ client_actions turns
  pub happened : Happened turns_before between
  pub served : Stand server_side
  pub goes : Goes IsServingAlone ServerIsCalm ServerAttends (server_actions turns_before) start served
  pub table : now.owner.end.server.view.session.table ≡ served.owner.end.server.view.session.table

-- its end is left out of the order
pub served_before : (actions : List (Action server_side)) (turns : List Turn) (between : Between) (start now : Stand server_side) (led : Led actions start now)
    → ServedToItsEnd actions start now led → server_actions turns ≡ actions → Happened turns between → Served actions turns between start now
served_before (Other (Left Shut) ∷ Ended ∷ before) turns between start now led alone is happened =
    let one = unturned turns in
    let left : IsIdle (Other (Left Shut) ∷ Ended ∷ before) = λ old new can. can in
    let ended : IsIdle (Ended ∷ before) = λ old new can. can in
    let one_is : server_actions one ≡ Ended ∷ before = unturned_server turns ∙ ap rest_of is in
    let both_is : server_actions (unturned one) ≡ before = unturned_server one ∙ ap rest_of one_is in
    record {
      turns_before = unturned one;
      clients = unturned_client one ∙ unturned_client turns;
      happened = unturned_happened one between (subst IsIdle (sym one_is) ended) (unturned_happened turns between (subst IsIdle (sym is) left) happened);
      served = led.1.0;
      goes = subst (λ d. Goes IsServingAlone ServerIsCalm ServerAttends d start led.1.0) (sym both_is) (led.1.1, alone);
      table = ends_keep_the_map Shut led.1.0 now (led.0, (led.1.0, refl, led.1.2), led.2);
    }
served_before actions turns between start now led alone is happened = absurd alone

-- ---- both

-- what both did before the end is the direct run
pub drives_over_are_the_direct_run_by : AgreesAlways → ReadingExists → DrivesOverAreTheDirectRun
drives_over_are_the_direct_run_by always reading b fair moment timed asked server over =
    let s = served_before (actions_of_server over.drove) over.turns over.between over.server_start server over.drove.did.sums.led
    over.served over.server_is over.happened in
    let client_is : client_actions s.turns_before ≡ actions_in asked over.client_start over.client over.answered = s.clients ∙ over.client_is in
    let client = subst (λ d. Goes IsAskingAlone ClientIsCalm ClientAttends d over.client_start over.client) (sym client_is)
    (answers_go asked over.client_start over.client over.answered) in
    let did : Did b s.turns_before over.between s.served over.client = record {
      server_start = over.server_start;
      client_start = over.client_start;
      begins = over.begins;
      happened = s.happened;
      server_led = s.goes.0;
      client_led = client.0;
      serves = s.goes.1;
      asks = client.1;
    } in
    let orders : begun_in moment (client_actions s.turns_before) ≡ orders_at_moment moment asked =
    ap (begun_in moment) client_is ∙ orders_are moment asked over.client_start over.client over.answered in
    let answers : reports_in (client_actions s.turns_before) ≡ answers_of asked =
    ap reports_in client_is ∙ answers_are asked over.client_start over.client over.answered in
    let told = ap length answers ∙ as_many (λ n. moment) asked ∙ ap length (sym orders) in
    let direct = drives_are_the_direct_run_by always reading b fair moment timed s.turns_before over.between s.served over.client did
    (answered_free IsAnswerAlone b over.server_start asked over.client_start over.client over.begins over.answered.1) told in
    direct_same (state_of b) (begun_in moment (client_actions s.turns_before)) (orders_at_moment moment asked) (reports_in (client_actions s.turns_before))
    (answers_of asked) s.served.owner.end.server.view.session.table server.owner.end.server.view.session.table orders answers (sym s.table) direct
