-- How actions that were played end: the client's drive is over, and so is the server's, since the client left or since it heard QUIT.
use Rattle.std.proofs.Common.{◌≡◌, inr, ℕ, suc, Bool, false, true, true≢false, List, [], ◌∷◌, take, drop, Some, None, refl, sym, ap, ◌∙◌}
use Rattle.ftp_ports.specs.Asking.{Shut}
use Rattle.ftp_ports.specs.Actions.{Action, Done, Ended, EndsHere, Led, Other, Stand}
use Rattle.ftp_ports.specs.Channel.{no_channel}
use Rattle.ftp_ports.specs.Machine.{Closed, Left, move_of, seen, waits}
use Rattle.ftp_ports.proofs.Courses.{carries}
use Rattle.ftp_ports.proofs.Idling.{carrier}
use Rattle.ftp_ports.proofs.Totals.{sums}
use Rattle.ftp_client_driver.specs.Driving.{ClientDrove}
use Rattle.ftp_client_driver.specs.Side.{Begun, Report, client_machine, client_side, is_operation_under_way}
use Rattle.ftp_client_model.specs.Calls as near
use Rattle.ftp_client_model.specs.View.{View as Near}
use Rattle.ftp_client_model.specs.declared.client.Standing.TheVariants as Standings
use Rattle.ftp_ends.specs.declared.link.Wants.TheVariants as Want
use Rattle.ftp_operation.specs.Answer.{Said}
use Rattle.ftp_operation.specs.declared.op.Op.{Op}
use Rattle.ftp_server_driver.specs.alone.Driving.{Drove as ServerDrove}
use Rattle.ftp_server_driver.specs.alone.Side.{server_machine, server_side}
use Rattle.ftp_server_model.specs.Calls as far
use Rattle.ftp_server_model.specs.View.{View as Far}
use Rattle.laws_world.specs.Claims.{Beginning}
use Rattle.laws_drivers.specs.control.Alone.{ClientAttends, ClientIsCalm, IsAskingAlone, IsServingAlone, ServerAttends, ServerIsCalm}
use Rattle.laws_drivers.specs.control.Between.{Can, Client, Far as TheServer, Happened, Server, Turn, client_actions, nothing_yet, server_actions}
use Rattle.laws_drivers.specs.control.Claims.{Begins}
use Rattle.laws_drivers.specs.control.Over.{AreAnswered, AreOver, actions_in}
use Rattle.laws_drivers.specs.control.Quitting.{HappenedAlone, HaveQuit, ServedAndLeft, quit_octets, quitting}
use Rattle.laws_drivers.specs.control.Touches.{touch_in}
use Rattle.laws_drivers.proofs.control.Ending.{Goes}
use Rattle.laws_drivers.proofs.control.Playing.{Attends, Plays, between, far_at, goes_on, near_at}

-- ---- the client

-- a drive of it gave its answer, and nothing lies between
pub record Answered (start : Stand server_side) (op : Op (List ℕ)) (said : Said) (client_start : Stand client_side) (v : Far) (n : Near) : Type 0 where
  pub turns : List Turn
  pub happened : Happened turns nothing_yet
  pub far_goes : Goes IsServingAlone ServerIsCalm ServerAttends (server_actions turns) start (far_at v [])
  pub answered : AreAnswered ((op, said) ∷ []) client_start (near_at n [])
  pub client_is : client_actions turns ≡ actions_in ((op, said) ∷ []) client_start (near_at n []) answered

-- it reports, and its port is shut: the last actions of a drive, after others
near_ends : (before : List (Action client_side)) (begun : Stand client_side) (said : Said) (n : Near) → near.report_of n ≡ Some said
    → near.wants (near.reports n) ≡ Want.Nothing → is_operation_under_way (near.reports n).job ≡ false → near.wants (near.data_closed (near.reports n)) ≡ Want.Nothing
    → Goes IsAskingAlone ClientIsCalm ClientAttends before begun (near_at n [])
    → Goes IsAskingAlone ClientIsCalm ClientAttends (Other Closed ∷ Other (Left Shut) ∷ Other (Report (Some said)) ∷ before) begun (near_at (near.data_closed (near.reports n)) [])
near_ends before begun said n some wants done closed goes =
    let m : Near = near.reports n in
    let report : Action client_side = Other (Report (Some said)) in
    let shut : Action client_side = Other (Left Shut) in
    let one = goes_on IsAskingAlone ClientIsCalm ClientAttends report before begun (near_at n []) (near_at m []) tt refl wants
    (((sym some, (refl, refl)), refl, tt), refl) goes in
    let two = goes_on IsAskingAlone ClientIsCalm ClientAttends shut (report ∷ before) begun (near_at m []) (near_at m []) tt refl wants (
      (refl, record { ended = refl; adds = tt; stands = refl; fate = refl; rest = refl; unwritten = refl; untold = refl }, (inr done, tt, tt)),
      refl,
    ) one in
    goes_on IsAskingAlone ClientIsCalm ClientAttends (Other Closed) (shut ∷ report ∷ before) begun (near_at m []) (near_at (near.data_closed m) []) tt refl closed
    (((refl, refl), (refl, refl), λ sound under. absurd (true≢false (sym under ∙ done))), refl) two

-- an operation that is answered, step by step: it is begun, all is heard, and then come its drive's last actions
pub record Answering (start : Stand server_side) (op : Op (List ℕ)) (said : Said) (client_start : Stand client_side) (v : Far) (n : Near) : Type 0 where
  pub first : Near
  pub begins : Done (Other (Begun op)) client_start (near_at first [])
  pub calm : ClientIsCalm client_start.owner (near_at first []).owner
  pub plays : Plays start (near_at first []) op [] v [] [] n []
  pub last : Goes IsAskingAlone ClientIsCalm ClientAttends (Other Closed ∷ Other (Left Shut) ∷ Other (Report (Some said)) ∷ []) (near_at n []) (near_at (near.data_closed (near.reports n)) [])

pub near_answering : (start : Stand server_side) (op : Op (List ℕ)) (said : Said) (client_start : Stand client_side) (first : Near) (v : Far) (n : Near)
    → ClientIsCalm client_start.owner (near_at first []).owner → Done (Other (Begun op)) client_start (near_at first [])
    → near.report_of n ≡ Some said → near.wants n ≡ Want.Nothing → near.wants (near.reports n) ≡ Want.Nothing → is_operation_under_way (near.reports n).job ≡ false
    → near.wants (near.data_closed (near.reports n)) ≡ Want.Nothing → Plays start (near_at first []) op [] v [] [] n [] → Answering start op said client_start v n
near_answering start op said client_start first v n calm begins some waits wants done closed p = record {
  first = first;
  begins = begins;
  calm = calm;
  plays = p;
  last = near_ends [] (near_at n []) said n some wants done closed (refl, waits);
}

pub near_answers : (start : Stand server_side) (op : Op (List ℕ)) (said : Said) (client_start : Stand client_side) (first : Near) (v : Far) (n : Near)
    → ClientAttends client_start.owner → ClientIsCalm client_start.owner (near_at first []).owner → Done (Other (Begun op)) client_start (near_at first [])
    → near.report_of n ≡ Some said → near.wants (near.reports n) ≡ Want.Nothing → is_operation_under_way (near.reports n).job ≡ false
    → near.wants (near.data_closed (near.reports n)) ≡ Want.Nothing → Plays start (near_at first []) op [] v [] [] n []
    → Answered start op said client_start v (near.data_closed (near.reports n))
near_answers start op said client_start first v n attends calm begins some wants done closed p =
    let begun = near_at first [] in
    let report : Action client_side = Other (Report (Some said)) in
    let shut : Action client_side = Other (Left Shut) in
    let all : List (Action client_side) = Other Closed ∷ shut ∷ report ∷ p.midst in
    let last = near_at (near.data_closed (near.reports n)) [] in
    let three : Goes IsAskingAlone ClientIsCalm ClientAttends all begun last = near_ends p.midst begun said n some wants done closed p.near_goes in
    let totals = sums all begun last three.0 in
    let drove : ClientDrove begun last (Some said) = record {
      answer = said;
      answered = refl;
      asked = Shut;
      did = record {
        actions = p.midst;
        sums = record { led = three.0; read = totals.read; heard = totals.heard; wrote = totals.wrote };
        carries = carries move_of (carrier client_machine) all begun last three.0 refl refl;
      };
    } in
    record {
      turns = Client (Other Closed) ∷ Client shut ∷ Client report ∷ p.turns;
      happened = (nothing_yet, (nothing_yet, (nothing_yet, p.happened, refl), refl), refl);
      far_goes = p.far_goes;
      answered = (
        attends,
        (
          client_start,
          refl,
          record { begun = begun; begins = begins; drove = drove },
          record { calm = calm; asks = three.1; midst = p.are },
        ),
      );
      client_is = ap (λ l. Other Closed ∷ shut ∷ report ∷ l) p.client_is;
    }

-- ---- the server

-- a server that owes nothing more to hear, told by a read that the control connection ended, or not
abbrev pub far_off : Far → (ended : Bool) → Stand server_side
far_off w ended = record (far_at w []) { left = record { octets = None; ended = ended } }

-- its port is shut
far_shuts : (w : Far) (ended : Bool) → far.wants w ≡ Want.CloseAll → Done (Other (Left Shut)) (far_off w ended) (far_off w ended)
far_shuts w ended over = (
  (refl, record { ended = refl; adds = tt; stands = refl; fate = refl; rest = refl; unwritten = refl; untold = refl }, (inr over, tt, tt)),
  refl,
)

-- so its drive is over
abbrev far_drove : (first : Far) (actions : List (Action server_side)) (w : Far) (ended : Bool) → Led actions (far_at first []) (far_off w ended)
    → far.wants w ≡ Want.CloseAll → ServerDrove (far_at first []) (far_off w ended)
far_drove first actions w ended led over =
    let all : Led (Other (Left Shut) ∷ actions) (far_at first []) (far_off w ended) = (far_off w ended, led, far_shuts w ended over) in
    let totals = sums (Other (Left Shut) ∷ actions) (far_at first []) (far_off w ended) all in
    record {
      asked = Shut;
      did = record {
        actions = actions;
        sums = record { led = all; read = totals.read; heard = totals.heard; wrote = totals.wrote };
        carries = carries move_of (carrier server_machine) (Other (Left Shut) ∷ actions) (far_at first []) (far_off w ended) all refl refl;
      };
      over = over;
    }

-- after QUIT was written it did actions alone, and stands so
pub record Quitted (start : Stand server_side) (before : List (Action server_side)) (up : List ℕ) (v : Far) (unheard down : List ℕ) : Type 0 where
  pub count : ℕ
  pub actions : List (Action server_side)
  pub led : Led actions start (far_at v unheard)
  pub served : ServedAndLeft count actions start (far_at v unheard) led
  pub before_is : before ≡ drop count actions
  pub happened : HappenedAlone (take count actions) (quitting nothing_yet) (between up down)

module _ (start : Stand server_side) (before : List (Action server_side)) where
  -- it did none yet
  pub quit_first : (v : Far) → Goes IsServingAlone ServerIsCalm ServerAttends before start (far_at v []) → Quitted start before quit_octets v [] []
  quit_first v goes = record { count = 0; actions = before; led = goes.0; served = goes.1; before_is = refl; happened = refl }

  -- one more
  pub quit_turn : (action : Action server_side) → IsServingAlone action → (up down next_up next_down : List ℕ) (v new : Far) (u next : List ℕ)
      → Done action (far_at v u) (far_at new next)
      → Can TheServer (touch_in action) (between up down) (between next_up next_down) → Quitted start before up v u down → Quitted start before next_up new next next_down
  quit_turn action is up down next_up next_down v new u next done can q = record {
    count = suc q.count;
    actions = action ∷ q.actions;
    led = (far_at v u, q.led, done);
    served = (q.served, is, refl);
    before_is = q.before_is;
    happened = (between up down, q.happened, can);
  }

module _ (b : Beginning) (first : Far) (op : Op (List ℕ)) (said : Said) (client_start : Stand client_side) (v : Far) (n : Near)
    (begins : Begins b (far_at first []) client_start) (a : Answered (far_at first []) op said client_start v n) where
  -- it is told that the client left
  pub far_leaves : v.owed ≡ [] → Attends v → far.wants (far.control_end v) ≡ Want.CloseAll → (server : Stand server_side) × AreOver b ((op, said) ∷ []) server
  far_leaves owed at over =
      let off = far_off (far.control_end v) true in
      let before = server_actions a.turns in
      let ends : EndsHere (far_at v []) off = record {
        due = (owed, λ serves. ap waits at.wants);
        heard = refl;
        read = tt;
        last = tt;
        ended = refl;
        cut = (refl, ap (λ q. seen q (no_channel None)) (sym at.wants));
        unheard = refl;
        written = refl;
      } in (
        off,
        record {
          server_start = far_at first [];
          client_start = client_start;
          client = near_at n [];
          begins = begins;
          drove = far_drove first (Ended ∷ before) (far.control_end v) true (far_at v [], a.far_goes.0, ends) over;
          served = a.far_goes.1;
          answered = a.answered;
          turns = Server (Other (Left Shut)) ∷ Server Ended ∷ a.turns;
          between = nothing_yet;
          happened = (nothing_yet, (nothing_yet, a.happened, refl), refl);
          server_is = refl;
          client_is = a.client_is;
        },
      )

  -- or it heard QUIT
  pub far_quits : (w : Far) (down : List ℕ) → far.wants w ≡ Want.CloseAll → n.standing ≡ Standings.Entered
      → Quitted (far_at first []) (server_actions a.turns) [] w [] down → (server : Stand server_side) × HaveQuit b ((op, said) ∷ []) server
  far_quits w down over entered q = (
    far_off w false,
    record {
      server_start = far_at first [];
      client_start = client_start;
      client = near_at n [];
      begins = begins;
      drove = far_drove first q.actions w false q.led over;
      count = q.count;
      served = q.served;
      answered = a.answered;
      entered = entered;
      turns = a.turns;
      between = nothing_yet;
      happened = a.happened;
      server_is = q.before_is;
      client_is = a.client_is;
      last = between [] down;
      happened_last = q.happened;
    },
  )
