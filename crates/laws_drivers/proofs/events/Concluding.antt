-- What follows of agreement: the direct run, and of drives that are over, or of which QUIT was written, the same.
use Rattle.std.proofs.Common.{◌≡◌, ℕ, false, List, [], ◌∷◌, ◌++◌, drop, length, option_to_list, take, refl, sym, ap, subst, ◌∙◌}
use Rattle.ftp_ports.specs.Actions.{Action, Led, Stand}
use Rattle.ftp_client_driver.specs.Side.{client_side}
use Rattle.ftp_client_model.specs.Calls.{is_busy, report_of}
use Rattle.ftp_client_model.specs.declared.client.Standing.TheVariants as Standings
use Rattle.ftp_operation.specs.Answer.{Said}
use Rattle.ftp_operation.specs.declared.op.Op.{Op}
use Rattle.ftp_server_driver.specs.alone.Side.{Timed, server_side}
use Rattle.ftp_server_model.proofs.LinesDecided.{reading_exists}
use Rattle.ftp_server_model.specs.Machine.{IsReading, Reading}
use Rattle.ftp_tree.specs.Tree.{Table}
use Rattle.laws_world.specs.Agreement.{Order}
use Rattle.laws_world.specs.Claims.{AreUnmarked, Beginning, IsFair, state_of}
use Rattle.laws_world.specs.World.{Mark}
use Rattle.laws_world.proofs.AgreementLemmas.{unmarked_is_direct}
use Rattle.laws_drivers.specs.control.Alone.{reports_in}
use Rattle.laws_drivers.specs.control.Between.{Between, Turn, client_actions, server_actions}
use Rattle.laws_drivers.specs.control.Quitting.{HappenedAlone, quitting}
use Rattle.laws_drivers.specs.events.Actions.{Along}
use Rattle.laws_drivers.specs.events.Answers.{AreAnswered, actions_in, answers_of, orders_at}
use Rattle.laws_drivers.specs.events.Faults.{Agree, AreTheDirectRun, ClientGoes, Did, Faults}
use Rattle.laws_drivers.specs.events.Moments.{AreMoments, begun_at}
use Rattle.laws_drivers.specs.events.Over.{AgreeAsOver, AreOver, OverAreTheDirectRun}
use Rattle.laws_drivers.specs.events.Quitting.{LeavesAlong, QuitAreTheDirectRun}
use Rattle.laws_drivers.proofs.control.Concluding.{ends_keep_the_map}
use Rattle.laws_drivers.proofs.control.Leaving.{quits_table}
use Rattle.laws_drivers.proofs.control.Quitting.{Quits}
use Rattle.laws_drivers.proofs.events.Answers.{InMidst, agree_same, answered_free, answers_are, as_many, direct_same, none_untaken, orders_are}
use Rattle.laws_drivers.proofs.events.Closing.{AtQuit, LeftSince, at_quit}
use Rattle.laws_drivers.proofs.events.Moments.{in_single}

-- ---- the last actions

-- all of a list, and none behind it
take_all : (actions : List (Action server_side)) → take (length actions) actions ≡ actions
take_all [] = refl
take_all (action ∷ actions) = ap (λ l. action ∷ l) (take_all actions)

drop_all : (actions : List (Action server_side)) → drop (length actions) actions ≡ []
drop_all [] = refl
drop_all (action ∷ actions) = drop_all actions

-- as a session that fetched ends
leaves_so : (actions : List (Action server_side)) (start now : Stand server_side) (led : Led actions start now) → LeavesAlong actions start now led
    → LeftSince (length actions) actions start now led
leaves_so [] start now led leaves = tt
leaves_so (action ∷ before) start now led leaves = (leaves_so before start led.0 led.1 leaves.0, leaves.1.0, leaves.1.1)

-- they keep the map
finals_keep : (read : Reading) → IsReading read → (table : Table) (actions : List (Action server_side)) (start now : Stand server_side)
    (led : Led actions start now) → LeavesAlong actions start now led → (old last : Between) → HappenedAlone actions old last
    → Quits table start old → Quits table now last
finals_keep read reads table actions start now led leaves old last happened quits =
    let q : AtQuit read reads (length actions) actions start now old last =
    at_quit read reads (length actions) actions start now led (leaves_so actions start now led leaves) old last
    (subst (λ d. HappenedAlone d old last) (sym (take_all actions)) happened) in
    let same : q.mid ≡ start = subst (λ d. Led d start q.mid) (drop_all actions) q.led in
    q.quits table (subst (λ m. Quits table m old) (sym same) quits)

-- ---- both

module _ (faults : Faults) where
  -- a world has no marks of such actions
  abbrev pub AreUnmarkedSo : Type 0
  AreUnmarkedSo =
      (turns : List Turn) (start now : Stand server_side) (led : Led (server_actions turns) start now)
      (client_start client : Stand client_side) (client_led : Led (client_actions turns) client_start client) (marks : List (List Mark))
      → faults.AreMarks turns start now led client_start client client_led marks → AreUnmarked marks

  -- agreement without marks is the direct run, where all is reported
  pub are_the_direct_run : AreUnmarkedSo → Agree faults → AreTheDirectRun faults
  are_the_direct_run unmarked agrees b fair moments timed turns between server client did free told =
      let agree = agrees b fair moments timed turns between server client did in
      let reports : List Said = reports_in (client_actions turns) in
      let begun : List Order = begun_at moments (client_actions turns) in
      let table : Table = server.owner.end.server.view.session.table in
      unmarked_is_direct (state_of b) begun agree.0 reports table (in_single moments (client_actions turns))
      (unmarked turns did.server_start server did.server_led did.client_start client did.client_led agree.0 agree.1) told
      (agree_same (state_of b) begun begun agree.0 (reports ++ option_to_list (report_of client.owner.end.view)) reports table table refl
      (none_untaken client reports free) refl agree.2)

  -- these actions of a client led from here to there, and were such
  abbrev pub WentSo : (actions : List (Action client_side)) (start now : Stand client_side) → Type 0
  WentSo actions start now =
      (led : Led actions start now) × Along (ClientGoes faults) actions start now led × faults.AreShort actions start now led

  -- so did those of its drives
  abbrev pub AnswersGo : Type 0
  AnswersGo =
      (asked : List (Op (List ℕ) × Said)) (start now : Stand client_side) (answered : AreAnswered faults.IsAnswer asked start now)
      → start.owner.end.view.closing ≡ false → WentSo (actions_in faults.IsAnswer asked start now answered) start now

  -- where each operation has its report and the client is logged in, the server hears QUIT next
  abbrev pub QuitsNext : Type 0
  QuitsNext =
      (read : Reading) → IsReading read → (b : Beginning) → IsFair b → (moments : ℕ → ℕ) → AreMoments moments
      → (turns : List Turn) (between : Between) (server : Stand server_side) (client : Stand client_side)
      → Did faults b moments turns between server client → is_busy client.owner.end.view ≡ false
      → client.owner.end.view.standing ≡ Standings.Entered
      → length (reports_in (client_actions turns)) ≡ length (begun_at moments (client_actions turns))
      → Quits server.owner.end.server.view.session.table server (quitting between)

  module _ (midst : InMidst faults.IsAnswer) where
    module _ (b : Beginning) (moments : ℕ → ℕ) (asked : List (Op (List ℕ) × Said)) (server : Stand server_side)
        (over : AreOver faults b moments asked server) where
      -- what both did before the end
      abbrev did_before : WentSo (client_actions over.turns) over.client_start over.client → Did faults b moments over.turns over.between over.last over.client
      did_before went = record {
        server_start = over.server_start;
        client_start = over.client_start;
        begins = over.begins;
        untold = over.untold;
        unwritten = over.unwritten;
        server_unwritten = over.server_unwritten;
        client_untold = over.client_untold;
        happened = over.happened;
        server_led = over.server_led;
        client_led = went.0;
        serves = over.serves;
        asks = went.1;
        ports = over.ports;
        told = over.told;
        ordered = over.ordered;
        short = went.2;
      }

      -- what was begun and reported, by a client that is not busy any more
      orders_over : begun_at moments (client_actions over.turns) ≡ orders_at moments asked
      orders_over = ap (begun_at moments) over.client_is ∙ orders_are faults.IsAnswer midst moments asked over.client_start over.client over.answered

      answers_over : reports_in (client_actions over.turns) ≡ answers_of asked
      answers_over = ap reports_in over.client_is ∙ answers_are faults.IsAnswer midst asked over.client_start over.client over.answered

      free_over : is_busy over.client.owner.end.view ≡ false
      free_over = answered_free faults.IsAnswer b over.server_start asked over.client_start over.client over.begins over.answered

    -- what both did before the end agrees
    pub agree_as_over : Agree faults → (b : Beginning) → IsFair b → (moments : ℕ → ℕ) → AreMoments moments → (asked : List (Op (List ℕ) × Said))
        (server : Stand server_side) (over : AreOver faults b moments asked server) (went : WentSo (client_actions over.turns) over.client_start over.client)
        → AgreeAsOver faults over went.0
    agree_as_over agrees b fair moments timed asked server over went =
        let did : Did faults b moments over.turns over.between over.last over.client = did_before b moments asked server over went in
        let agree = agrees b fair moments timed over.turns over.between over.last over.client did in
        let reports : List Said = reports_in (client_actions over.turns) in (
          agree.0,
          agree.1,
          agree_same (state_of b) (begun_at moments (client_actions over.turns)) (orders_at moments asked) agree.0
              (reports ++ option_to_list (report_of over.client.owner.end.view)) (answers_of asked)
              over.last.owner.end.server.view.session.table server.owner.end.server.view.session.table
              (orders_over b moments asked server over)
              (none_untaken over.client reports (free_over b moments asked server over) ∙ answers_over b moments asked server over)
              (sym (ends_keep_the_map over.closed over.last server over.server_end)) agree.2,
        )

    -- it is the direct run
    pub over_are_the_direct_run : AnswersGo → AreTheDirectRun faults → OverAreTheDirectRun faults
    over_are_the_direct_run go run b fair moments timed asked server over =
        let went = subst (λ d. WentSo d over.client_start over.client) (sym over.client_is)
        (go asked over.client_start over.client over.answered (ap (λ v. v.closing) over.begins.client_view)) in
        let orders = orders_over b moments asked server over in
        let answers = answers_over b moments asked server over in
        let direct = run b fair moments timed over.turns over.between over.last over.client (did_before b moments asked server over went)
        (free_over b moments asked server over) (ap length answers ∙ as_many moments asked ∙ ap length (sym orders)) in
        direct_same (state_of b) (begun_at moments (client_actions over.turns)) (orders_at moments asked) (reports_in (client_actions over.turns))
        (answers_of asked) over.last.owner.end.server.view.session.table server.owner.end.server.view.session.table orders answers
        (sym (ends_keep_the_map over.closed over.last server over.server_end)) direct

    -- so it is before QUIT was written, and after it the map stays
    pub quit_are_the_direct_run : AnswersGo → AreTheDirectRun faults → QuitsNext → QuitAreTheDirectRun faults
    quit_are_the_direct_run go run next b fair moments timed asked server over =
        let read = reading_exists.0 in
        let reads = reading_exists.1 in
        let went = subst (λ d. WentSo d over.client_start over.client) (sym over.client_is)
        (go asked over.client_start over.client over.answered (ap (λ v. v.closing) over.begins.client_view)) in
        let did : Did faults b moments over.turns over.between over.mid over.client = record {
          server_start = over.server_start;
          client_start = over.client_start;
          begins = over.begins;
          untold = over.untold;
          unwritten = over.unwritten;
          server_unwritten = over.server_unwritten;
          client_untold = over.client_untold;
          happened = over.happened;
          server_led = over.server_led;
          client_led = went.0;
          serves = over.serves;
          asks = went.1;
          ports = over.ports;
          told = over.told;
          ordered = over.ordered;
          short = went.2;
        } in
        let orders : begun_at moments (client_actions over.turns) ≡ orders_at moments asked =
        ap (begun_at moments) over.client_is ∙ orders_are faults.IsAnswer midst moments asked over.client_start over.client over.answered in
        let answers : reports_in (client_actions over.turns) ≡ answers_of asked =
        ap reports_in over.client_is ∙ answers_are faults.IsAnswer midst asked over.client_start over.client over.answered in
        let told = ap length answers ∙ as_many moments asked ∙ ap length (sym orders) in
        let free = answered_free faults.IsAnswer b over.server_start asked over.client_start over.client over.begins over.answered in
        let direct = run b fair moments timed over.turns over.between over.mid over.client did free told in
        let quits = finals_keep read reads over.mid.owner.end.server.view.session.table over.finals over.mid over.off over.final_led over.leaves
        (quitting over.between) over.last over.happened_last
        (next read reads b fair moments timed over.turns over.between over.mid over.client did free over.entered told) in
        let table : server.owner.end.server.view.session.table ≡ over.mid.owner.end.server.view.session.table =
        ap (λ (at : Timed). at.server.view.session.table) over.left.0.0 ∙ quits_table _ over.off over.last quits in
        direct_same (state_of b) (begun_at moments (client_actions over.turns)) (orders_at moments asked) (reports_in (client_actions over.turns))
        (answers_of asked) over.mid.owner.end.server.view.session.table server.owner.end.server.view.session.table orders answers (sym table) direct
