-- Sessions of one kind, put together: what is so of all their actions.
use Rattle.std.proofs.Common.{◌≡◌, ℕ, suc, ◌^◌, ◌<◌, false, List, [], ◌∷◌, ◌++◌, length, refl, sym, ap, subst, ◌∙◌, append-nil, arith}
use Rattle.std.specs.Prelude.{⊤}
use Rattle.ftp_ports.specs.Actions.{Action, Led, Other, Stand}
use Rattle.ftp_ports.specs.Side.{Side}
use Rattle.ftp_ports.specs.Machine.{Held}
use Rattle.ftp_client_driver.specs.Side.{Begun, client_side}
use Rattle.ftp_client_model.specs.Calls.{is_busy}
use Rattle.ftp_client_model.specs.Failing.{Client as NearEnd}
use Rattle.ftp_operation.specs.Answer.{Said}
use Rattle.ftp_operation.specs.declared.op.Op.{Op}
use Rattle.laws_drivers.specs.events.Bare.{IsBare}
use Rattle.laws_drivers.specs.events.Actions.{Along, AreMidst}
use Rattle.laws_drivers.proofs.events.Along.{Went as Goes}
use Rattle.laws_drivers.specs.control.Alone.{ClientIsCalm, ServerIsCalm, reports_in}
use Rattle.laws_drivers.specs.control.Between.{Client, Server, Turn, client_actions, nothing_yet, server_actions}
use Rattle.laws_drivers.specs.control.Claims.{Begins}
use Rattle.laws_drivers.specs.events.Answers.{answers_of, orders_at}
use Rattle.laws_drivers.specs.control.Touches.{touch_in}
use Rattle.laws_drivers.specs.events.Moments.{AreMoments, AreToldAt, IsToldAt, begun_at, last_of, number_in}
use Rattle.laws_drivers.proofs.events.Answers.{as_many}
use Rattle.laws_world.specs.Agreement.{Order, Single}
use Rattle.laws_world.specs.Claims.{AreAnswers, Beginning, IsFair, state_of}
use Rattle.ftp_server_driver.specs.alone.Side.{Timed, server_side}
use Rattle.ftp_pair_memory.specs.streams.Order.{AllCame, Counted}
use Rattle.ftp_pair_memory.specs.streams.Plain.{quiet}
use Rattle.ftp_pair_memory.specs.steps.Taking.{Answered, Ends, by_client}
use Rattle.ftp_pair_memory.proofs.steps.Gathering.{clients_then}
use Rattle.laws_sessions.specs.passive.Kinds.{AnsweredSo, AreAllToldAt, AreAnsweredSo, AreByCounts, AreTheDirectRun, Does, Kind, SessionBy}
use Rattle.laws_sessions.specs.passive.Laws.{IsUnbroken}
use Rattle.laws_sessions.specs.passive.Sessions.{AreAsked, actions_of, turns_of_both}
use Rattle.laws_sessions.proofs.passive.Breaking.{HappenedByResets, Resets, ServerIsUnbroken, resets_happen, session_resets}
use Rattle.laws_sessions.proofs.passive.Counting.{far_calms, near_calms}
use Rattle.laws_sessions.proofs.passive.Gathering.{far_fewer, near_fewer, answered_closed, answered_free, clients, clients_with, session_came, session_counted, turns_with}
use Rattle.laws_drivers.proofs.events.Moments.{midst_begins, midst_numbers, midst_reports}

-- ---- the actions of either

-- one list of a client's actions after another
module _ (Is : Action client_side → (old new : Held NearEnd) → Type 0) where
  goes_then : (more before : List (Action client_side)) (start mid now : Stand client_side) → Goes Is more mid now → Goes Is before start mid
      → Goes Is (more ++ before) start now
  goes_then [] before start mid now second first = subst (λ n. Goes Is before start n) (sym second.0) first
  goes_then (action ∷ more) before start mid now second first =
      let rest = goes_then more before start mid second.0.0 (second.0.1, second.1.0) first in
      ((second.0.0, rest.0, second.0.2), (rest.1, second.1.1))

module _ (Is : Action server_side → (old new : Held Timed) → Type 0) (moments : ℕ → ℕ) where
  -- the server's actions among those of both, each such, and told at these moments
  pub record Served (turns : List Turn) (start now : Stand server_side) : Type 0 where
    pub led : Led (server_actions turns) start now
    pub serves : Along Is (server_actions turns) start now led
    pub told : AreToldAt moments turns start now led

  -- actions of both after others, in whose midst no operation was begun
  served_then : (moment : ℕ) (later before : List Turn) (start mid now : Stand server_side) (led : Led (server_actions later) mid now)
      → Along Is (server_actions later) mid now led → AreAllToldAt moment (server_actions later) mid now led → AreMidst (client_actions later)
      → last_of moments (number_in (client_actions before)) ≡ moment → Served before start mid → Served (later ++ before) start now
  served_then moment [] before start mid now led serves told midst is first = subst (λ n. Served before start n) (sym led) first
  served_then moment (Server action ∷ later) before start mid now led serves told midst is first =
      let rest = served_then moment later before start mid led.0 led.1 serves.0 told.0 midst is first in
      let same : last_of moments (number_in (client_actions (later ++ before))) ≡ moment =
      ap (λ d. last_of moments (number_in d)) (clients_then later before)
      ∙ ap (last_of moments) (midst_numbers (client_actions later) (client_actions before) midst) ∙ is in
      record {
        led = (led.0, rest.led, led.2);
        serves = (rest.serves, serves.1);
        told = (rest.told, subst (λ m. IsToldAt action led.0 now led.2 m) (sym same) told.1);
      }
  served_then moment (Client action ∷ later) before start mid now led serves told midst is first =
      let rest = served_then moment later before start mid now led serves told midst.0 is first in
      record { led = rest.led; serves = rest.serves; told = rest.told }

  -- the client's alone after others
  served_beside : (actions : List (Action client_side)) (before : List Turn) (start now : Stand server_side) → Served before start now
      → Served (by_client actions ++ before) start now
  served_beside [] before start now first = first
  served_beside (action ∷ actions) before start now first =
      let rest = served_beside actions before start now first in record { led = rest.led; serves = rest.serves; told = rest.told }

-- ---- sessions

module _ (kind : Kind) (KeepsServer : (old new : Held Timed) → Type 0) (KeepsClient : (old new : Held NearEnd) → Type 0) (moments : ℕ → ℕ) where
  abbrev pub ServerDoes : Action server_side → (old new : Held Timed) → Type 0
  ServerDoes = Does {side = server_side} kind.Serves KeepsServer

  abbrev pub ClientDoes : Action client_side → (old new : Held NearEnd) → Type 0
  ClientDoes = Does {side = client_side} kind.Asks KeepsClient

  -- what is so of all actions of a session
  pub record Gathered (turns : List Turn) (asked : List (Op (List ℕ) × Said)) (start now : Ends) : Type 0 where
    pub serves : Served ServerDoes moments turns (quiet start.server) (quiet now.server)
    pub asks : Goes ClientDoes (client_actions turns) (quiet start.client) (quiet now.client)
    pub number : number_in (client_actions turns) ≡ length asked
    pub orders : begun_at moments (client_actions turns) ≡ orders_at moments asked
    pub answers : reports_in (client_actions turns) ≡ answers_of asked
    pub free : is_busy now.client.end.view ≡ false
    pub closed : now.client.end.view.closing ≡ false

-- an operation of that kind may be begun by who has nothing to close
module _ (kind : Kind) (may : (op : Op (List ℕ)) (at : Held NearEnd) → kind.Carries op → at.end.view.closing ≡ false → kind.Asks (Other (Begun op)) at)
    (KeepsServer : (old new : Held Timed) → Type 0) (KeepsClient : (old new : Held NearEnd) → Type 0) (moments : ℕ → ℕ) where
  abbrev ServerGoes : Action server_side → (old new : Held Timed) → Type 0
  ServerGoes = ServerDoes kind KeepsServer KeepsClient moments

  abbrev ClientGoes : Action client_side → (old new : Held NearEnd) → Type 0
  ClientGoes = ClientDoes kind KeepsServer KeepsClient moments

  abbrev All : (turns : List Turn) (asked : List (Op (List ℕ) × Said)) (start now : Ends) → Type 0
  All = Gathered kind KeepsServer KeepsClient moments

  module _ (op : Op (List ℕ)) (answer : Said) (turns : List Turn) (asked : List (Op (List ℕ) × Said)) (start mid now : Ends)
      (a : Answered op answer mid now) (by : AnsweredSo kind KeepsServer KeepsClient (moments (length asked)) a) (g : All turns asked start mid) where
    abbrev last : List (Action client_side)
    last = actions_of a.settled.answers

    abbrev earlier : List (Action client_side)
    earlier = Other (Begun op) ∷ client_actions turns

    client_goes : Goes ClientGoes (clients_with op answer turns mid now a) (quiet start.client) (quiet now.client)
    client_goes =
        let took = a.settled.took in
        let first : Goes ClientGoes earlier (quiet start.client) (quiet a.begun) =
        ((quiet mid.client, g.asks.0, a.begins), (g.asks.1, (may op mid.client by.carried g.closed, by.kept))) in
        goes_then ClientGoes last (client_actions took.turns ++ earlier) (quiet start.client) (quiet a.settled.mid.client) (quiet now.client)
        (a.settled.answers.led, by.last_asks)
        (goes_then ClientGoes (client_actions took.turns) earlier (quiet start.client) (quiet a.begun) (quiet a.settled.mid.client)
        (took.client_led, by.asks) first)

    server_serves : Served ServerGoes moments (turns_with op answer turns mid now a) (quiet start.server) (quiet now.server)
    server_serves =
        let took = a.settled.took in
        let earlier : List Turn = Client (Other (Begun op)) ∷ turns in
        let begun : Served ServerGoes moments earlier (quiet start.server) (quiet mid.server) =
        record { led = g.serves.led; serves = g.serves.serves; told = g.serves.told } in
        served_beside ServerGoes moments last (took.turns ++ earlier) (quiet start.server) (quiet now.server)
        (subst (λ h. Served ServerGoes moments (took.turns ++ earlier) (quiet start.server) (quiet h)) (sym a.settled.answers.server)
        (served_then ServerGoes moments (moments (length asked)) took.turns earlier (quiet start.server) (quiet mid.server)
        (quiet a.settled.mid.server) took.server_led by.serves by.told by.midst (ap moments g.number) begun))

    number_is : number_in (clients_with op answer turns mid now a) ≡ suc (length asked)
    number_is =
        midst_numbers a.settled.answers.midst (client_actions a.settled.took.turns ++ earlier) by.last_midst
        ∙ midst_numbers (client_actions a.settled.took.turns) earlier by.midst ∙ ap suc g.number

    orders_are : begun_at moments (clients_with op answer turns mid now a) ≡ orders_at moments ((op, answer) ∷ asked)
    orders_are =
        append-nil _ ∙ append-nil _ ∙ append-nil _
        ∙ midst_begins moments a.settled.answers.midst (client_actions a.settled.took.turns ++ earlier) by.last_midst
        ∙ midst_begins moments (client_actions a.settled.took.turns) earlier by.midst
        ∙ ap (λ n. begun_at moments (client_actions turns) ++ Single op (moments n) ∷ []) g.number
        ∙ ap (λ l. l ++ Single op (moments (length asked)) ∷ []) g.orders

    answers_are : reports_in (clients_with op answer turns mid now a) ≡ answers_of ((op, answer) ∷ asked)
    answers_are =
        append-nil _ ∙ append-nil _
        ∙ ap (λ l. l ++ answer ∷ []) (midst_reports a.settled.answers.midst (client_actions a.settled.took.turns ++ earlier) by.last_midst
        ∙ midst_reports (client_actions a.settled.took.turns) earlier by.midst ∙ append-nil _ ∙ g.answers)

    -- one operation more
    one_more : All (turns_with op answer turns mid now a) ((op, answer) ∷ asked) start now
    one_more =
        let near = clients op answer turns mid now a in
        record {
          serves = server_serves;
          asks = subst (λ d. Goes ClientGoes d (quiet start.client) (quiet now.client)) (sym near) client_goes;
          number = ap number_in near ∙ number_is;
          orders = ap (begun_at moments) near ∙ orders_are;
          answers = ap reports_in near ∙ answers_are;
          free = answered_free op answer mid now a;
          closed = answered_closed op answer mid now a;
        }

  -- so it is of a session
  pub gathered : (b : Beginning) (asked : List (Op (List ℕ) × Said)) (start now : Ends) → Begins b (quiet start.server) (quiet start.client)
      → (are : AreAsked asked start now) → AreAnsweredSo kind KeepsServer KeepsClient moments asked start now are
      → All (turns_of_both asked start now are) asked start now
  gathered b [] start now begins are by =
      let none : All [] [] start start = record {
        serves = record { led = refl; serves = tt; told = tt };
        asks = (refl, tt);
        number = refl;
        orders = refl;
        answers = refl;
        free = ap is_busy begins.client_view;
        closed = ap (λ v. v.closing) begins.client_view;
      } in
      subst (λ n. All [] [] start n) (sym are) none
  gathered b (asked ∷ before) start now begins are by =
      one_more asked.0 asked.1 (turns_of_both before start are.0 are.1) before start are.0 now are.2 by.1 (gathered b before start are.0 begins are.1 by.0)

-- ---- the order

-- each action could be done, where the server's are told of no break
module _ (kind : Kind) (unbroken : (action : Action server_side) (at : Held Timed) → kind.Serves action at → IsUnbroken (touch_in action))
    (KeepsServer : (old new : Held Timed) → Type 0) (KeepsClient : (old new : Held NearEnd) → Type 0) (moments : ℕ → ℕ) where
  server_unbroken : (turns : List Turn) (start now : Stand server_side) → Goes (ServerDoes kind KeepsServer KeepsClient moments) (server_actions turns) start now
      → ServerIsUnbroken turns
  server_unbroken [] start now serves = tt
  server_unbroken (Server action ∷ before) start now serves =
      (server_unbroken before start serves.0.0 (serves.0.1, serves.1.0), unbroken action serves.0.0.owner serves.1.1.0)
  server_unbroken (Client action ∷ before) start now serves = server_unbroken before start now serves

  pub session_happens : (asked : List (Op (List ℕ) × Said)) (start now : Ends) (are : AreAsked asked start now)
      → AreAnsweredSo kind KeepsServer KeepsClient moments asked start now are → start.between ≡ nothing_yet
      → Served (ServerDoes kind KeepsServer KeepsClient moments) moments (turns_of_both asked start now are) (quiet start.server) (quiet now.server)
      → HappenedByResets (turns_of_both asked start now are) now.between
  session_happens asked start now are by none serves =
      let turns = turns_of_both asked start now are in
      resets_happen turns now.between
      (subst (λ w. Resets turns w now.between) none (session_resets kind KeepsServer KeepsClient moments asked start now are by))
      (server_unbroken turns (quiet start.server) (quiet now.server) (serves.led, serves.serves))

-- ---- by counts

-- actions that are such, and keep this
module _ {side : Side} (Is : Action side → side.End → Type 0) (Keeps : (old new : side.End) → Type 0) where
  kept_along : (actions : List (Action side)) (start now : Stand side) (led : Led actions start now) → Along (Does Is (λ old new. ⊤)) actions start now led
      → Along (λ action old new. Keeps old new) actions start now led → Along (Does Is Keeps) actions start now led
  kept_along [] start now led such kept = tt
  kept_along (action ∷ before) start now led such kept = (kept_along before start led.0 led.1 such.0 kept.0, (such.1.0, kept.1))

-- where no count moved neither was refused memory, and no device failed or strayed
module _ (kind : Kind) (moments : ℕ → ℕ) where
  abbrev Beside : (turns : List Turn) (asked : List (Op (List ℕ) × Said)) (start now : Ends) → Type 0
  Beside = Gathered kind (λ old new. ⊤) (λ old new. ⊤) moments

  pub calms : (turns : List Turn) (asked : List (Op (List ℕ) × Said)) (start now : Ends) → Beside turns asked start now
      → now.server.end.server.counts ≡ start.server.end.server.counts → now.client.end.refusals ≡ start.client.end.refusals → length turns < 2 ^ 60
      → Gathered kind ServerIsCalm ClientIsCalm moments turns asked start now
  calms turns asked start now g counts refusals few =
      let far_few : length (server_actions turns) < 2 ^ 60 = omega (arith, far_fewer turns, few) in
      let near_few : length (client_actions turns) < 2 ^ 60 = omega (arith, near_fewer turns, few) in
      let server = quiet {side = server_side} start.server in
      let client = quiet {side = client_side} start.client in
      record {
        serves = record {
          led = g.serves.led;
          serves = kept_along kind.Serves ServerIsCalm (server_actions turns) server (quiet now.server) g.serves.led g.serves.serves
              (far_calms (server_actions turns) server (quiet now.server) g.serves.led counts far_few);
          told = g.serves.told;
        };
        asks = (
          g.asks.0,
          kept_along kind.Asks ClientIsCalm (client_actions turns) client (quiet now.client) g.asks.0 g.asks.1
              (near_calms (client_actions turns) client (quiet now.client) g.asks.0 refusals near_few),
        );
        number = g.number;
        orders = g.orders;
        answers = g.answers;
        free = g.free;
        closed = g.closed;
      }

-- ---- the direct run

-- actions of that kind, in an order in which each can happen, and in which each port that was told was the next one, and who came the host at the other end, are
-- the direct run
abbrev pub Concludes : Kind → Type 0
Concludes kind =
    (b : Beginning) → IsFair b → (moments : ℕ → ℕ) → AreMoments moments → (turns : List Turn) (asked : List (Op (List ℕ) × Said)) (start now : Ends)
    → Begins b (quiet start.server) (quiet start.client) → IsBare start.server.channel → IsBare start.client.channel → HappenedByResets turns now.between
    → Counted turns 0 now.listens → kind.Meets start → AllCame start.hosts turns → Gathered kind ServerIsCalm ClientIsCalm moments turns asked start now
    → length (reports_in (client_actions turns)) ≡ length (begun_at moments (client_actions turns))
    → AreAnswers (state_of b) (begun_at moments (client_actions turns)) (reports_in (client_actions turns)) now.server.end.server.view.session.table

module _ (kind : Kind) (may : (op : Op (List ℕ)) (at : Held NearEnd) → kind.Carries op → at.end.view.closing ≡ false → kind.Asks (Other (Begun op)) at)
    (unbroken : (action : Action server_side) (at : Held Timed) → kind.Serves action at → IsUnbroken (touch_in action)) (direct : Concludes kind) where
  -- so are sessions, whatever the ends kept, where neither was refused memory, and no device failed or strayed
  concludes : (KeepsServer : (old new : Held Timed) → Type 0) (KeepsClient : (old new : Held NearEnd) → Type 0) (b : Beginning) → IsFair b
      → (moments : ℕ → ℕ) → AreMoments moments → (asked : List (Op (List ℕ) × Said)) (start now : Ends)
      → (s : SessionBy kind KeepsServer KeepsClient b moments asked start now)
      → Gathered kind KeepsServer KeepsClient moments (turns_of_both asked start now s.are) asked start now
      → Gathered kind ServerIsCalm ClientIsCalm moments (turns_of_both asked start now s.are) asked start now
      → AreAnswers (state_of b) (orders_at moments asked) (answers_of asked) now.server.end.server.view.session.table
  concludes KeepsServer KeepsClient b fair moments timed asked start now s kept g =
      let turns = turns_of_both asked start now s.are in
      let table = now.server.end.server.view.session.table in
      let happened = session_happens kind unbroken KeepsServer KeepsClient moments asked start now s.are s.by s.nothing kept.serves in
      let counted = subst (λ n. Counted turns n now.listens) s.listens (session_counted asked start now s.are) in
      let came = (session_came asked start now s.are).0 in
      let told = ap length g.answers ∙ as_many moments asked ∙ ap length (sym g.orders) in
      let is = direct b fair moments timed turns asked start now s.begins s.server_bare s.client_bare happened counted s.meets came g told in
      subst (λ (r : List Said). AreAnswers (state_of b) (orders_at moments asked) r table) g.answers
      (subst (λ (o : List Order). AreAnswers (state_of b) o (reports_in (client_actions turns)) table) g.orders is)

  pub are_the_direct_run : AreTheDirectRun kind
  are_the_direct_run b fair moments timed asked start now s =
      let g = gathered kind may ServerIsCalm ClientIsCalm moments b asked start now s.begins s.are s.by in
      concludes ServerIsCalm ClientIsCalm b fair moments timed asked start now s g g

  pub are_by_counts : AreByCounts kind
  are_by_counts b fair moments timed asked start now s counts refusals few =
      let turns = turns_of_both asked start now s.are in
      let g = gathered kind may (λ old new. ⊤) (λ old new. ⊤) moments b asked start now s.begins s.are s.by in
      concludes (λ old new. ⊤) (λ old new. ⊤) b fair moments timed asked start now s g (calms kind moments turns asked start now g counts refusals few)
