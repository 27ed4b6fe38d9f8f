-- How a session ends: the client's drive reports and leaves its data connection or its port, and the server's drive is over since the client left, or since it
-- heard the QUIT that was written then.
use Rattle.std.proofs.Common.{◌≡◌, inr, ℕ, false, List, [], ◌∷◌, ◌++◌, Some, refl, ap}
use Rattle.ftp_ports.specs.Asking.{Asked, Shut}
use Rattle.ftp_ports.specs.Channel.{Channel}
use Rattle.ftp_command.specs.Line.{line_of}
use Rattle.ftp_command.specs.declared.command.Command.TheVariants as command
use Rattle.ftp_ports.specs.Actions.{Action, Done, Heard, Led, Other, Read, Said as Says, Stand}
use Rattle.ftp_ports.specs.Machine.{Closed, Held, Left, move_of}
use Rattle.ftp_ports.proofs.Courses.{carries}
use Rattle.ftp_ports.proofs.Idling.{carrier}
use Rattle.ftp_ports.proofs.Totals.{sums}
use Rattle.ftp_client_driver.specs.Side.{Begun, Report, client_side, is_operation_under_way}
use Rattle.ftp_client_model.specs.Calls as near
use Rattle.ftp_client_model.specs.Failing.{Client as NearEnd}
use Rattle.ftp_client_model.specs.View.{View as Near}
use Rattle.ftp_client_model.specs.declared.client.Standing.TheVariants as Standings
use Rattle.ftp_ends.specs.declared.link.Wants.TheVariants as Want
use Rattle.ftp_operation.specs.Answer.{Said}
use Rattle.ftp_operation.specs.declared.op.Op.{Op}
use Rattle.ftp_server_driver.specs.alone.Driving.{Drove as ServerDrove}
use Rattle.ftp_server_driver.specs.alone.Side.{server_machine, server_side}
use Rattle.ftp_server_model.specs.Calls as far
use Rattle.ftp_server_model.specs.Machine.{obeyed}
use Rattle.ftp_server_model.proofs.ReadingLemmas.{reads_stated}
use Rattle.ftp_tree.specs.Tree.{Table}
use Rattle.ftp_server_model.specs.View.{View as Far}
use Rattle.laws_world.specs.Claims.{Beginning}
use Rattle.laws_drivers.specs.control.Between.{Between, Can, CanTurn, Client, Far as TheServer, Hold, server_actions}
use Rattle.laws_drivers.specs.control.Claims.{Begins}
use Rattle.laws_drivers.specs.events.Answers.{AreAnswered, IsAnswerBy}
use Rattle.laws_drivers.specs.control.Quitting.{HappenedAlone, quit_octets, quitting}
use Rattle.laws_drivers.specs.control.Touches.{touch_in}
use Rattle.laws_drivers.proofs.control.Playing.{Attends, ear_after, far_ending, far_hears, far_reading, far_saying, is_silent, no_events}
use Rattle.laws_drivers.specs.events.Actions.{IsLast}
use Rattle.laws_examples.proofs.transfers.Calling.{far_bye, far_done, quiet}
use Rattle.laws_examples.proofs.transfers.Over.{IsLeft, Reports, are_over, far_drove, far_end, far_led, far_off, near_answers, near_does, near_done, near_drove}
use Rattle.laws_examples.proofs.transfers.Playing.{Played, far_in, lies, near_in, none_yet}
use Rattle.laws_transfers.specs.Actions.{ClientTransfers, IsTransferred}
use Rattle.laws_transfers.specs.Over.{AreOver}
use Rattle.laws_drivers.specs.events.Quitting.{LeavesAlong}
use Rattle.laws_transfers.specs.Quitting.{QuitAfterAll}

-- both ended the data connection, or both lost it, and so much of the control connection is to be read
abbrev pub lies_over : Hold → (up down : List ℕ) → Between
lies_over hold up down = lies up down [] [] hold hold

-- ---- actions behind QUIT

module _ (start : Stand server_side) (first : Far) (before : List (Action server_side)) (hold : Hold) where
  -- after it was written the server did actions alone, which come after those before, and stands so
  pub record Quitted (up : List ℕ) (v : Far) (unheard down : List ℕ) : Type 0 where
    pub finals : List (Action server_side)
    pub led : Led finals (far_in none_yet first []) (far_in none_yet v unheard)
    pub all : Led (finals ++ before) start (far_in none_yet v unheard)
    pub leaves : LeavesAlong finals (far_in none_yet first []) (far_in none_yet v unheard) led
    pub happened : HappenedAlone finals (quitting (lies_over hold [] [])) (lies_over hold up down)

  -- it did none yet
  pub quit_first : Led before start (far_in none_yet first []) → Quitted quit_octets first [] []
  quit_first led = record { finals = []; led = refl; all = led; leaves = tt; happened = refl }

  -- one more
  pub quit_turn : (action : Action server_side) → IsLast action → (up down next_up next_down : List ℕ) (v new : Far) (u next : List ℕ)
      → Done action (far_in none_yet v u) (far_in none_yet new next)
      → Can TheServer (touch_in action) (lies_over hold up down) (lies_over hold next_up next_down) → Quitted up v u down
      → Quitted next_up new next next_down
  quit_turn action is up down next_up next_down v new u next done can q = record {
    finals = action ∷ q.finals;
    led = (far_in none_yet v u, q.led, done);
    all = (far_in none_yet v u, q.all, done);
    leaves = (q.leaves, (is, refl));
    happened = (lies_over hold up down, q.happened, can);
  }

-- QUIT is heard and answered
pub quits : (table : Table) (start : Stand server_side) (before : List (Action server_side)) (hold : Hold)
    → Led before start (far_in none_yet (far_done table) []) → Quitted start (far_done table) before hold [] (quiet (far_bye table)) [] (far_bye table).owed
unfolding obeyed is_silent ear_after no_events
quits table start before hold led =
    let v : Far = far_done table in
    let bye : Far = far_bye table in
    let quit : List ℕ = 81 ∷ 85 ∷ 73 ∷ 84 ∷ 13 ∷ [] in
    let last : Far = record v { ear = ear_after v.ear quit } in
    let at : Attends v = record { wants = refl; running = refl; none_waits = refl } in
    let there : Attends last = record { wants = refl; running = refl; none_waits = refl } in
    let read = quit_turn start v before hold (Read quit_octets) tt quit_octets [] [] [] v v [] quit_octets (far_reading v quit_octets at refl) (refl, refl)
    (quit_first start v before hold led) in
    let heard = far_hears (λ v u. Quitted start (far_done table) before hold [] v u [])
    (λ octet rest v new at done q. quit_turn start (far_done table) before hold (Heard (octet ∷ [])) tt [] [] [] [] v new (octet ∷ rest) rest done refl q)
    quit (10 ∷ []) v at refl refl read in
    let obeys = quit_turn start v before hold (Heard (10 ∷ [])) tt [] [] [] [] last bye (10 ∷ []) []
    (far_ending last bye (line_of command.Quit) command.Quit there refl refl (λ read reads. reads_stated read command.Quit reads tt tt) refl) refl heard in
    quit_turn start v before hold (Says bye.owed) tt [] [] [] bye.owed bye (quiet bye) [] [] (far_saying bye [] refl) refl obeys

-- its port is shut once it is done
shuts : (w : Far) → far.wants w ≡ Want.CloseAll → Done (Other (Left Shut)) (far_in none_yet w []) (far_in none_yet w [])
shuts w over = (
  (refl, record { ended = refl; adds = tt; stands = refl; fate = refl; rest = refl; unwritten = refl; untold = refl }, (inr over, tt, tt)),
  refl,
)

-- then its drive is over
quit_drove : (start : Stand server_side) (actions : List (Action server_side)) (w : Far) → start.owner.channel.unwritten ≡ [] → start.owner.channel.untold ≡ []
    → Led actions start (far_in none_yet w []) → far.wants w ≡ Want.CloseAll → ServerDrove start (far_in none_yet w [])
quit_drove start actions w unwritten untold led over =
    let off = far_in none_yet w [] in
    let all : Led (Other (Left Shut) ∷ actions) start off = (off, led, shuts w over) in
    let totals = sums (Other (Left Shut) ∷ actions) start off all in
    record {
      asked = Shut;
      did = record {
        actions = actions;
        sums = record { led = all; read = totals.read; heard = totals.heard; wrote = totals.wrote };
        carries = carries move_of (carrier server_machine) (Other (Left Shut) ∷ actions) start off all unwritten untold;
      };
      over = over;
    }

-- ---- an operation was answered

-- both did such actions of it, and the client is still to report, to leave its data connection and to be told so
pub record IsAnsweredBy (Carries : Op (List ℕ) → Type 0) (Does : Action client_side → (old new : Held NearEnd) → Type 0)
    (Plays : (start : Stand server_side) (begun : Stand client_side) (there : Between) (server : Stand server_side) (client : Stand client_side) → Type 0)
    (b : Beginning) (op : Op (List ℕ)) (said : Said) : Type 0 where
  pub first : Far
  pub client_first : Near
  pub begun : Near
  pub served : Far
  pub heard : Near
  pub channel : Channel
  pub asked : Asked
  pub hold : Hold
  pub there : Between
  pub begins : Begins b (far_in none_yet first []) (near_in none_yet client_first [])
  pub does : Done (Other (Begun op)) (near_in none_yet client_first []) (near_in none_yet begun [])
  pub is : Carries op
  pub some : near.report_of heard ≡ Some said
  pub free : is_operation_under_way (near.reports heard).job ≡ false
  pub leaves : Done (Other (Left asked)) (near_in channel (near.reports heard) []) (near_in none_yet (near.reports heard) [])
  pub may : Does (Other (Left asked)) (near_in channel (near.reports heard) []).owner (near_in none_yet (near.reports heard) []).owner
  pub can : CanTurn (Client (Other (Left asked))) there (lies_over hold [] [])
  pub played : Plays (far_in none_yet first []) (near_in none_yet begun []) there (far_in none_yet served []) (near_in channel heard [])

-- the client dialled for it
abbrev pub IsAnswered : (b : Beginning) (moments : ℕ → ℕ) (op : Op (List ℕ)) (said : Said) → Type 0
IsAnswered b moments op said =
    IsAnsweredBy IsTransferred ClientTransfers (λ start begun there server client. Played moments start begun op 1 there server client) b op said

-- ---- both are over

module _ (b : Beginning) (first : Far) (op : Op (List ℕ)) (said : Said) (client_first begun : Near) (v : Far) (n : Near) (moments : ℕ → ℕ)
    (channel : Channel) (asked : Asked) (hold : Hold) (there : Between) (begins : Begins b (far_in none_yet first []) (near_in none_yet client_first []))
    (does : Done (Other (Begun op)) (near_in none_yet client_first []) (near_in none_yet begun [])) (is : IsTransferred op)
    (some : near.report_of n ≡ Some said) (free : is_operation_under_way (near.reports n).job ≡ false)
    (leaves : Done (Other (Left asked)) (near_in channel (near.reports n) []) (near_in none_yet (near.reports n) []))
    (may : ClientTransfers (Other (Left asked)) (near_in channel (near.reports n) []).owner (near_in none_yet (near.reports n) []).owner)
    (can : CanTurn (Client (Other (Left asked))) there (lies_over hold [] []))
    (p : Played moments (far_in none_yet first []) (near_in none_yet begun []) op 1 there (far_in none_yet v []) (near_in channel n [])) where
  -- what the client's drive did
  abbrev reporting : Reports op said client_first begun n channel asked
  reporting = record { does = does; some = some; free = free; leaves = leaves; midst = p.midst; led = p.near_led }

  -- and that is all that was asked
  unfoldable all_asked : AreAnswered (IsAnswerBy IsTransferred ClientTransfers) ((op, said) ∷ []) (near_in none_yet client_first []) (near_done n)
  unfolding near_done
  all_asked = (
    near_in none_yet client_first [],
    refl,
    near_answers reporting,
    near_does reporting IsTransferred ClientTransfers is p.takes (tt, refl) may (tt, refl) p.are,
  )

  -- the client left: both are over
  pub both_over : v.owed ≡ [] → Attends v → far.wants (far.control_end v) ≡ Want.CloseAll
      → (server : Stand server_side) × AreOver b moments ((op, said) ∷ []) server
  unfolding all_asked near_answers near_drove far_drove far_led far_end near_done are_over
  both_over owed at over =
      let left : IsLeft first v (server_actions p.turns) = record { led = p.far_led; owed = owed; attends = at; over = over } in (
        far_off v,
        are_over client_first n (Client (Other Closed) ∷ Client (Other (Left asked)) ∷ Client (Other (Report (Some said))) ∷ p.turns) (lies_over hold [] [])
            (lies_over hold [] [], (there, (there, p.happened, refl), can), refl) begins left all_asked
            (ap (λ l. Other Closed ∷ Other (Left asked) ∷ Other (Report (Some said)) ∷ l) p.client_is) p.gives p.ports p.told p.resets,
      )

  -- or QUIT was written, and heard
  pub both_quit : (w : Far) (down : List ℕ) → far.wants w ≡ Want.CloseAll → (near.data_closed (near.reports n)).standing ≡ Standings.Entered
      → Quitted (far_in none_yet first []) v (server_actions p.turns) hold [] w [] down
      → (server : Stand server_side) × QuitAfterAll b moments ((op, said) ∷ []) server
  unfolding all_asked near_answers near_drove near_done quit_drove
  both_quit w down over entered q = (
    far_in none_yet w [],
    record {
      server_start = far_in none_yet first [];
      client_start = near_in none_yet client_first [];
      client = near_done n;
      begins = begins;
      untold = refl;
      unwritten = refl;
      server_unwritten = refl;
      client_untold = refl;
      drove = quit_drove (far_in none_yet first []) (q.finals ++ server_actions p.turns) w refl refl q.all over;
      answered = all_asked;
      entered = entered;
      turns = Client (Other Closed) ∷ Client (Other (Left asked)) ∷ Client (Other (Report (Some said))) ∷ p.turns;
      between = lies_over hold [] [];
      happened = (lies_over hold [] [], (there, (there, p.happened, refl), can), refl);
      closed = Shut;
      finals = q.finals;
      server_is = refl;
      client_is = ap (λ l. Other Closed ∷ Other (Left asked) ∷ Other (Report (Some said)) ∷ l) p.client_is;
      mid = far_in none_yet v [];
      server_led = p.far_led;
      serves = p.gives;
      ports = p.ports;
      told = p.told;
      ordered = p.resets;
      off = far_in none_yet w [];
      final_led = q.led;
      leaves = q.leaves;
      left = shuts w over;
      last = lies_over hold [] down;
      happened_last = q.happened;
    },
  )
