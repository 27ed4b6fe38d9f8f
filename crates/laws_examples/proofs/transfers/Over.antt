-- How the drives of such a session are over: the client's reports, leaves its data connection or its port and shuts that, and the server's is told that the
-- client left, and shuts its own.
use Rattle.std.proofs.Common.{◌≡◌, inr, ℕ, false, true, List, [], ◌∷◌, None, Some, refl, sym, ap}
use Rattle.ftp_ports.specs.Asking.{Asked, Shut}
use Rattle.ftp_ports.specs.Channel.{Channel}
use Rattle.ftp_ports.specs.Actions.{Action, Done, Ended, EndsHere, Led, Other, Stand}
use Rattle.ftp_ports.specs.Machine.{Closed, Held, Left, move_of, seen, waits}
use Rattle.ftp_ports.proofs.Courses.{carries}
use Rattle.ftp_ports.proofs.Idling.{carrier}
use Rattle.ftp_ports.proofs.Totals.{sums}
use Rattle.ftp_client_driver.specs.Driving.{ClientDrove}
use Rattle.ftp_client_driver.specs.Side.{Begun, Report, client_machine, client_side, is_operation_under_way}
use Rattle.ftp_client_model.specs.Calls as near
use Rattle.ftp_client_model.specs.Failing.{Client as NearEnd}
use Rattle.ftp_client_model.specs.View.{View as Near}
use Rattle.ftp_ends.specs.declared.link.Wants.TheVariants as Want
use Rattle.ftp_operation.specs.Answer.{Said}
use Rattle.ftp_operation.specs.declared.op.Op.{Op}
use Rattle.ftp_server_driver.specs.alone.Driving.{Drove as ServerDrove}
use Rattle.ftp_server_driver.specs.alone.Side.{server_machine, server_side}
use Rattle.ftp_server_model.specs.Calls as far
use Rattle.ftp_server_model.specs.View.{View as Far}
use Rattle.laws_drivers.specs.control.Between.{Between, Happened, Turn, client_actions, server_actions}
use Rattle.laws_drivers.specs.control.Claims.{Begins}
use Rattle.laws_drivers.specs.events.Actions.{Along, AreMidst}
use Rattle.laws_drivers.specs.events.Answers.{Answers, AnswersBy, AreAnswered, actions_in}
use Rattle.laws_drivers.specs.events.Faults.{Faults, ServerGoes}
use Rattle.laws_drivers.specs.events.Moments.{AreToldAt}
use Rattle.laws_drivers.specs.events.Over.{AreOver}
use Rattle.laws_world.specs.Claims.{Beginning}
use Rattle.laws_drivers.proofs.control.Playing.{Attends}
use Rattle.laws_examples.proofs.transfers.Moves.{near_closes, says_answer}
use Rattle.laws_examples.proofs.transfers.Playing.{far_in, near_in, none_yet}

-- ---- the client

-- an operation was begun, these actions led to its report, and what the client has left of a data connection, or its port, can be left
pub record Reports (op : Op (List ℕ)) (said : Said) (client_first begun n : Near) (channel : Channel) (asked : Asked) : Type 0 where
  pub does : Done (Other (Begun op)) (near_in none_yet client_first []) (near_in none_yet begun [])
  pub some : near.report_of n ≡ Some said
  pub free : is_operation_under_way (near.reports n).job ≡ false
  pub leaves : Done (Other (Left asked)) (near_in channel (near.reports n) []) (near_in none_yet (near.reports n) [])
  pub midst : List (Action client_side)
  pub led : Led midst (near_in none_yet begun []) (near_in channel n [])

-- what the client holds as its drive is over
unfoldable pub near_done : Near → Stand client_side
near_done n = near_in none_yet (near.data_closed (near.reports n)) []

module _ {op : Op (List ℕ)} {said : Said} {client_first begun n : Near} {channel : Channel} {asked : Asked}
    (r : Reports op said client_first begun n channel asked) where
  abbrev pub near_actions : List (Action client_side)
  near_actions = Other Closed ∷ Other (Left asked) ∷ Other (Report (Some said)) ∷ r.midst

  -- all that its drive did led there
  unfoldable pub near_led : Led near_actions (near_in none_yet begun []) (near_done n)
  unfolding near_done
  near_led = (
    near_in none_yet (near.reports n) [],
    (
      near_in channel (near.reports n) [],
      (near_in channel n [], r.led, says_answer channel n said r.some),
      r.leaves,
    ),
    near_closes (near.reports n) r.free,
  )

  -- so it was over
  unfoldable pub near_drove : ClientDrove (near_in none_yet begun []) (near_done n) (Some said)
  near_drove =
      let totals = sums near_actions (near_in none_yet begun []) (near_done n) near_led in
      record {
        answer = said;
        answered = refl;
        asked = asked;
        did = record {
          actions = r.midst;
          sums = record { led = near_led; read = totals.read; heard = totals.heard; wrote = totals.wrote };
          carries = carries move_of (carrier client_machine) near_actions (near_in none_yet begun []) (near_done n) near_led refl refl;
        };
      }

  -- the operation was begun and answered
  unfoldable pub near_answers : Answers op said (near_in none_yet client_first []) (near_done n)
  near_answers = record { begun = near_in none_yet begun []; begins = r.does; drove = near_drove }

  -- by actions that are such
  pub near_does : (Carries : Op (List ℕ) → Type 0) (Asks : Action client_side → (old new : Held NearEnd) → Type 0) → Carries op
      → Along Asks r.midst (near_in none_yet begun []) (near_in channel n []) r.led
      → Asks (Other (Report (Some said))) (near_in channel n []).owner (near_in channel (near.reports n) []).owner
      → Asks (Other (Left asked)) (near_in channel (near.reports n) []).owner (near_in none_yet (near.reports n) []).owner
      → Asks (Other Closed) (near_in none_yet (near.reports n) []).owner (near_done n).owner → AreMidst r.midst → AnswersBy Carries Asks near_answers
  unfolding near_answers near_drove near_led
  near_does Carries Asks is takes reports leaves closes midst = record { raised = is; calm = refl; asks = (((takes, reports), leaves), closes); midst = midst }

-- ---- the server

-- such actions led to where it owes nothing and waits, and the client left
pub record IsLeft (first v : Far) (actions : List (Action server_side)) : Type 0 where
  pub led : Led actions (far_in none_yet first []) (far_in none_yet v [])
  pub owed : v.owed ≡ []
  pub attends : Attends v
  pub over : far.wants (far.control_end v) ≡ Want.CloseAll

-- the server as it was told that the client left
abbrev pub far_off : Far → Stand server_side
far_off v = record (far_in none_yet (far.control_end v) []) { left = record { octets = None; ended = true } }

module _ {first v : Far} {actions : List (Action server_side)} (l : IsLeft first v actions) where
  -- then its port was shut
  unfoldable pub far_end : Led (Other (Left Shut) ∷ Ended ∷ []) (far_in none_yet v []) (far_off v)
  far_end =
      let end : EndsHere (far_in none_yet v []) (far_off v) = record {
        due = (l.owed, λ serves. ap waits l.attends.wants);
        heard = refl;
        read = tt;
        last = tt;
        ended = refl;
        cut = (refl, ap (λ q. seen q none_yet) (sym l.attends.wants));
        unheard = refl;
        written = refl;
      } in (
        far_off v,
        (far_in none_yet v [], refl, end),
        (
          (
            refl,
            record { ended = refl; adds = tt; stands = refl; fate = refl; rest = refl; unwritten = refl; untold = refl },
            (inr l.over, tt, tt),
          ),
          refl,
        ),
      )

  -- all that its drive did
  unfoldable pub far_led : Led (Other (Left Shut) ∷ Ended ∷ actions) (far_in none_yet first []) (far_off v)
  unfolding far_end
  far_led = let end = far_end in (far_off v, (far_in none_yet v [], l.led, end.1.2), end.2)

  -- so it was over
  unfoldable pub far_drove : ServerDrove (far_in none_yet first []) (far_off v)
  far_drove =
      let totals = sums (Other (Left Shut) ∷ Ended ∷ actions) (far_in none_yet first []) (far_off v) far_led in
      record {
        asked = Shut;
        did = record {
          actions = Ended ∷ actions;
          sums = record { led = far_led; read = totals.read; heard = totals.heard; wrote = totals.wrote };
          carries = carries move_of (carrier server_machine) (Other (Left Shut) ∷ Ended ∷ actions) (far_in none_yet first []) (far_off v) far_led refl refl;
        };
        over = l.over;
      }

-- ---- both

-- such turns led to where the client left, and it answered all that was asked: both are over
unfoldable pub are_over : {faults : Faults} {b : Beginning} {moments : ℕ → ℕ} {asked : List (Op (List ℕ) × Said)} {first v : Far} (client_first n : Near)
    (turns : List Turn) (between : Between) (happened : Happened turns between) → Begins b (far_in none_yet first []) (near_in none_yet client_first [])
    → (left : IsLeft first v (server_actions turns))
    → (answered : AreAnswered faults.IsAnswer asked (near_in none_yet client_first []) (near_done n))
    → client_actions turns ≡ actions_in faults.IsAnswer asked (near_in none_yet client_first []) (near_done n) answered
    → Along (ServerGoes faults) (server_actions turns) (far_in none_yet first []) (far_in none_yet v []) left.led → faults.ArePorts turns
    → AreToldAt moments turns (far_in none_yet first []) (far_in none_yet v []) left.led
    → faults.AreOrdered moments turns between happened (far_in none_yet first []) (far_in none_yet v []) left.led
    → AreOver faults b moments asked (far_off v)
unfolding far_drove far_led far_end
are_over {first = first} {v = v} client_first n turns between happened begins left answered client_is serves ports told ordered = record {
  server_start = far_in none_yet first [];
  client_start = near_in none_yet client_first [];
  client = near_done n;
  begins = begins;
  untold = refl;
  unwritten = refl;
  server_unwritten = refl;
  client_untold = refl;
  drove = far_drove left;
  answered = answered;
  turns = turns;
  between = between;
  happened = happened;
  closed = Shut;
  server_is = refl;
  client_is = client_is;
  last = far_in none_yet v [];
  server_led = left.led;
  server_end = far_end left;
  serves = serves;
  ports = ports;
  told = told;
  ordered = ordered;
}
