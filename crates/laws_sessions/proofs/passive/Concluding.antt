-- Sessions over control alone, put together: the direct run.
use Rattle.std.proofs.Common.{◌≡◌, ℕ, ◌^◌, ◌<◌, ◌≤◌, false, List, [], ◌∷◌, ◌++◌, length, refl, sym, ap, subst, ◌∙◌, append-nil, arith}
use Rattle.std.specs.Prelude.{⊤}
use Rattle.ftp_ports.specs.Asking.{Shut}
use Rattle.ftp_ports.specs.Actions.{Action, Heard, Led, Other, Read, Said as Says, Stand}
use Rattle.ftp_ports.specs.Side.{Side}
use Rattle.ftp_ports.specs.Machine.{Aside, Closed, Held, Left}
use Rattle.ftp_client_driver.specs.Side.{Begun, client_side}
use Rattle.ftp_client_model.specs.Calls as near
use Rattle.ftp_client_model.specs.Calls.{is_busy}
use Rattle.ftp_client_model.specs.Failing.{Client as NearEnd}
use Rattle.ftp_operation.specs.Answer.{Said}
use Rattle.ftp_operation.specs.declared.op.Op.{Op}
use Rattle.laws_drivers.specs.events.Actions.{Along}
use Rattle.laws_drivers.specs.control.Alone.{ClientAttends, ClientIsCalm, IsAskingAlone, IsServingAlone, ServerAttends, ServerIsCalm, Throughout, begun_in, reports_in}
use Rattle.laws_drivers.specs.control.Between.{Client, Server, Turn, client_actions, nothing_yet, server_actions}
use Rattle.laws_drivers.specs.control.Claims.{Begins, Did}
use Rattle.laws_drivers.specs.control.Over.{orders_at_moment}
use Rattle.laws_drivers.specs.events.Answers.{answers_of}
use Rattle.laws_drivers.specs.control.Touches.{touch_in}
use Rattle.laws_drivers.proofs.control.Ending.{Goes, goes_then, midst_begins, midst_reports, starts_so}
use Rattle.laws_drivers.proofs.events.Answers.{as_many}
use Rattle.laws_drivers.proofs.control.Theorems.{drives_are_the_direct_run}
use Rattle.laws_world.specs.Agreement.{Order, Single}
use Rattle.laws_world.specs.Claims.{AreAnswers, Beginning, IsFair, state_of}
use Rattle.ftp_tree.specs.Sound.{last_second}
use Rattle.ftp_server_driver.specs.alone.Side.{Timed, server_side}
use Rattle.ftp_server_model.specs.Calls as far
use Rattle.ftp_server_model.specs.View.{View as FarView}
use Rattle.ftp_pair_memory.specs.streams.Order.{Went}
use Rattle.ftp_pair_memory.specs.streams.Plain.{quiet}
use Rattle.ftp_pair_memory.specs.steps.Taking.{Answered, Ends}
use Rattle.laws_sessions.specs.passive.Laws.{AreAskedBy, AreUnbroken, AskedBy, IsUnbroken, SessionsAreTheDirectRun, SessionsByCounts}
use Rattle.laws_sessions.specs.passive.Sessions.{AreAsked, actions_of, turns_of_both}
use Rattle.laws_sessions.proofs.passive.Counting.{far_calms, near_calms}
use Rattle.laws_sessions.proofs.passive.Gathering.{answered_free, clients, clients_with, far_fewer, near_fewer, servers, session_went, turns_with}
use Rattle.laws_sessions.proofs.passive.Happening.{went_happens}

-- ---- over control alone no break of a data connection is told

serving_unbroken : (action : Action server_side) → IsServingAlone action → IsUnbroken (touch_in action)
serving_unbroken (Heard octets) is = tt
serving_unbroken (Says octets) is = tt
serving_unbroken (Read octets) is = tt
serving_unbroken (Other (Aside asked)) is = tt
serving_unbroken action is = absurd is

asking_unbroken : (action : Action client_side) → IsAskingAlone action → IsUnbroken (touch_in action)
asking_unbroken (Heard octets) is = tt
asking_unbroken (Says octets) is = tt
asking_unbroken (Read octets) is = tt
asking_unbroken (Other (Aside own)) is = tt
asking_unbroken (Other (Left Shut)) is = tt
asking_unbroken (Other Closed) is = tt
asking_unbroken action is = absurd is

module _ (KeepsServer : (old new : Held Timed) → Type 0) (KeepsClient : (old new : Held NearEnd) → Type 0) where
  all_unbroken : (turns : List Turn) (server server_now : Stand server_side) (client client_now : Stand client_side)
      → Goes IsServingAlone KeepsServer ServerAttends (server_actions turns) server server_now
      → Goes IsAskingAlone KeepsClient ClientAttends (client_actions turns) client client_now → AreUnbroken turns
  all_unbroken [] server server_now client client_now serves asks = tt
  all_unbroken (Server action ∷ before) server server_now client client_now serves asks =
      (all_unbroken before server serves.0.0 client client_now (serves.0.1, serves.1.0) asks, serving_unbroken action serves.1.1)
  all_unbroken (Client action ∷ before) server server_now client client_now serves asks =
      (all_unbroken before server server_now client asks.0.0 serves (asks.0.1, asks.1.0), asking_unbroken action asks.1.1)

-- ---- sessions

module _ (KeepsServer : (old new : Held Timed) → Type 0) (KeepsClient : (old new : Held NearEnd) → Type 0) where
  -- what is so of all actions of a session
  record Gathered (moment : ℕ) (turns : List Turn) (asked : List (Op (List ℕ) × Said)) (start now : Ends) : Type 0 where
    serves : Goes IsServingAlone KeepsServer ServerAttends (server_actions turns) (quiet start.server) (quiet now.server)
    asks : Goes IsAskingAlone KeepsClient ClientAttends (client_actions turns) (quiet start.client) (quiet now.client)
    orders : begun_in moment (client_actions turns) ≡ orders_at_moment moment asked
    answers : reports_in (client_actions turns) ≡ answers_of asked
    free : is_busy now.client.end.view ≡ false

  module _ (moment : ℕ) (op : Op (List ℕ)) (answer : Said) (turns : List Turn) (asked : List (Op (List ℕ) × Said)) (start mid now : Ends)
      (a : Answered op answer mid now) (alone : AskedBy KeepsServer KeepsClient a) (g : Gathered moment turns asked start mid) where
    abbrev last : List (Action client_side)
    last = actions_of a.settled.answers

    abbrev earlier : List (Action client_side)
    earlier = Other (Begun op) ∷ client_actions turns

    client_goes : Goes IsAskingAlone KeepsClient ClientAttends (clients_with op answer turns mid now a) (quiet start.client) (quiet now.client)
    client_goes =
        let took = a.settled.took in
        let middle : Goes IsAskingAlone KeepsClient ClientAttends (client_actions took.turns) (quiet a.begun) (quiet a.settled.mid.client) =
        (took.client_led, alone.asks) in
        let attends = starts_so IsAskingAlone KeepsClient ClientAttends (client_actions took.turns) (quiet a.begun) (quiet a.settled.mid.client) middle in
        let first : Goes IsAskingAlone KeepsClient ClientAttends earlier (quiet start.client) (quiet a.begun) =
        ((quiet mid.client, g.asks.0, a.begins), (g.asks.1, tt, alone.kept, attends)) in
        goes_then IsAskingAlone KeepsClient ClientAttends last (client_actions took.turns ++ earlier) (quiet start.client) (quiet a.settled.mid.client)
        (quiet now.client) (a.settled.answers.led, alone.last_asks)
        (goes_then IsAskingAlone KeepsClient ClientAttends (client_actions took.turns) earlier (quiet start.client) (quiet a.begun)
        (quiet a.settled.mid.client) middle first)

    server_goes : Goes IsServingAlone KeepsServer ServerAttends (server_actions a.settled.took.turns ++ server_actions turns) (quiet start.server) (quiet now.server)
    server_goes =
        let took = a.settled.took in
        subst (λ h. Goes IsServingAlone KeepsServer ServerAttends (server_actions took.turns ++ server_actions turns) (quiet start.server) (quiet h))
        (sym a.settled.answers.server)
        (goes_then IsServingAlone KeepsServer ServerAttends (server_actions took.turns) (server_actions turns) (quiet start.server) (quiet mid.server)
        (quiet a.settled.mid.server) (took.server_led, alone.serves) g.serves)

    orders_are : begun_in moment (clients_with op answer turns mid now a) ≡ orders_at_moment moment ((op, answer) ∷ asked)
    orders_are =
        append-nil _ ∙ append-nil _ ∙ append-nil _
        ∙ midst_begins moment a.settled.answers.midst (client_actions a.settled.took.turns ++ earlier) alone.last_midst
        ∙ midst_begins moment (client_actions a.settled.took.turns) earlier alone.midst ∙ ap (λ l. l ++ Single op moment ∷ []) g.orders

    answers_are : reports_in (clients_with op answer turns mid now a) ≡ answers_of ((op, answer) ∷ asked)
    answers_are =
        append-nil _ ∙ append-nil _
        ∙ ap (λ l. l ++ answer ∷ []) (midst_reports a.settled.answers.midst (client_actions a.settled.took.turns ++ earlier) alone.last_midst
        ∙ midst_reports (client_actions a.settled.took.turns) earlier alone.midst ∙ append-nil _ ∙ g.answers)

    one_more : Gathered moment (turns_with op answer turns mid now a) ((op, answer) ∷ asked) start now
    one_more =
        let near = clients op answer turns mid now a in
        let far = servers op answer turns mid now a in
        record {
          serves = subst (λ d. Goes IsServingAlone KeepsServer ServerAttends d (quiet start.server) (quiet now.server)) (sym far) server_goes;
          asks = subst (λ d. Goes IsAskingAlone KeepsClient ClientAttends d (quiet start.client) (quiet now.client)) (sym near) client_goes;
          orders = ap (begun_in moment) near ∙ orders_are;
          answers = ap reports_in near ∙ answers_are;
          free = answered_free op answer mid now a;
        }

-- as a session begins neither end wants a data connection
server_attends : (b : Beginning) (start : Ends) → Begins b (quiet start.server) (quiet start.client) → ServerAttends start.server
server_attends b start begins = record {
  wants = ap far.wants begins.server_view;
  running = ap (λ (v : FarView). v.session.life) begins.server_view;
  none_waits = ap (λ (v : FarView). v.waiting) begins.server_view;
}

client_attends : (b : Beginning) (start : Ends) → Begins b (quiet start.server) (quiet start.client) → ClientAttends start.client
unfolding near.wants
client_attends b start begins = ap near.wants begins.client_view

module _ (KeepsServer : (old new : Held Timed) → Type 0) (KeepsClient : (old new : Held NearEnd) → Type 0) where
  gathered : (b : Beginning) (moment : ℕ) (asked : List (Op (List ℕ) × Said)) (start now : Ends) → Begins b (quiet start.server) (quiet start.client)
      → (are : AreAsked asked start now) → AreAskedBy KeepsServer KeepsClient asked start now are
      → Gathered KeepsServer KeepsClient moment (turns_of_both asked start now are) asked start now
  gathered b moment [] start now begins are alone =
      let none : Gathered KeepsServer KeepsClient moment [] [] start start = record {
        serves = (refl, server_attends b start begins);
        asks = (refl, client_attends b start begins);
        orders = refl;
        answers = refl;
        free = ap is_busy begins.client_view;
      } in
      subst (λ n. Gathered KeepsServer KeepsClient moment [] [] start n) (sym are) none
  gathered b moment (asked ∷ before) start now begins are alone =
      one_more KeepsServer KeepsClient moment asked.0 asked.1 (turns_of_both before start are.0 are.1) before start are.0 now are.2 alone.1
      (gathered b moment before start are.0 begins are.1 alone.0)

-- so it is concluded
concludes : (b : Beginning) → IsFair b → (moment : ℕ) → moment ≤ last_second → (turns : List Turn) (asked : List (Op (List ℕ) × Said))
    (start now : Ends) → Begins b (quiet start.server) (quiet start.client) → Went turns nothing_yet now.between
    → Gathered ServerIsCalm ClientIsCalm moment turns asked start now
    → AreAnswers (state_of b) (orders_at_moment moment asked) (answers_of asked) now.server.end.server.view.session.table
concludes b fair moment timed turns asked start now begins went g =
    let unbroken = all_unbroken ServerIsCalm ClientIsCalm turns (quiet start.server) (quiet now.server) (quiet start.client) (quiet now.client)
    g.serves g.asks in
    let did : Did b turns now.between (quiet now.server) (quiet now.client) = record {
      server_start = quiet start.server;
      client_start = quiet start.client;
      begins = begins;
      happened = went_happens turns now.between went unbroken;
      server_led = g.serves.0;
      client_led = g.asks.0;
      serves = g.serves.1;
      asks = g.asks.1;
    } in
    let told = ap length g.answers ∙ as_many (λ n. moment) asked ∙ ap length (sym g.orders) in
    let table = now.server.end.server.view.session.table in
    let direct = drives_are_the_direct_run b fair moment timed turns now.between (quiet now.server) (quiet now.client) did g.free told in
    subst (λ (r : List Said). AreAnswers (state_of b) (orders_at_moment moment asked) r table) g.answers
    (subst (λ (o : List Order). AreAnswers (state_of b) o (reports_in (client_actions turns)) table) g.orders direct)

pub sessions_are_the_direct_run : SessionsAreTheDirectRun
sessions_are_the_direct_run b fair moment timed asked start now begins none are alone =
    let turns = turns_of_both asked start now are in
    concludes b fair moment timed turns asked start now begins (subst (λ w. Went turns w now.between) none (session_went asked start now are))
    (gathered ServerIsCalm ClientIsCalm b moment asked start now begins are alone)

-- ---- by counts

-- actions that are such, and keep this
module _ {side : Side} (Is : Action side → Type 0) (Keeps : (old new : side.End) → Type 0) (Stands : side.End → Type 0) where
  kept_throughout : (actions : List (Action side)) (start now : Stand side) (led : Led actions start now)
      → Throughout Is (λ old new. ⊤) Stands actions start now led → Along (λ action old new. Keeps old new) actions start now led
      → Throughout Is Keeps Stands actions start now led
  kept_throughout [] start now led such kept = such
  kept_throughout (action ∷ before) start now led such kept = (kept_throughout before start led.0 led.1 such.0 kept.0, such.1, kept.1, such.3)

pub sessions_by_counts : SessionsByCounts
sessions_by_counts b fair moment timed asked start now begins none are beside counts refusals few =
    let turns = turns_of_both asked start now are in
    let g = gathered (λ old new. ⊤) (λ old new. ⊤) b moment asked start now begins are beside in
    let far_few : length (server_actions turns) < 2 ^ 60 = omega (arith, far_fewer turns, few) in
    let near_few : length (client_actions turns) < 2 ^ 60 = omega (arith, near_fewer turns, few) in
    let calm : Gathered ServerIsCalm ClientIsCalm moment turns asked start now = record {
      serves = (
        g.serves.0,
        kept_throughout IsServingAlone ServerIsCalm ServerAttends (server_actions turns) (quiet start.server) (quiet now.server) g.serves.0 g.serves.1
            (far_calms (server_actions turns) (quiet start.server) (quiet now.server) g.serves.0 counts far_few),
      );
      asks = (
        g.asks.0,
        kept_throughout IsAskingAlone ClientIsCalm ClientAttends (client_actions turns) (quiet start.client) (quiet now.client) g.asks.0 g.asks.1
            (near_calms (client_actions turns) (quiet start.client) (quiet now.client) g.asks.0 refusals near_few),
      );
      orders = g.orders;
      answers = g.answers;
      free = g.free;
    } in
    concludes b fair moment timed turns asked start now begins (subst (λ w. Went turns w now.between) none (session_went asked start now are)) calm
