-- Two drives over control alone, as a list of a world's events: action by action.
use Rattle.std.proofs.Common.{◌≡◌, ℕ, ◌≤◌, List, [], ◌∷◌, ◌++◌, Option, Some, None, option_to_list, refl, sym, ap, subst, append-nil}
use Rattle.ftp_ports.specs.Asking.{Shut}
use Rattle.ftp_ports.specs.Actions.{Action, Done, Heard, Led, Other, Read, Said as Says, Stand}
use Rattle.ftp_ports.specs.Machine.{Aside, Closed, Left}
use Rattle.ftp_ports.specs.Side.{Side}
use Rattle.ftp_client_driver.specs.Side.{Reporting, Starting, client_side}
use Rattle.ftp_client_model.specs.Calls as near
use Rattle.ftp_operation.specs.Answer.{Said}
use Rattle.ftp_server_driver.specs.alone.Side.{server_side}
use Rattle.ftp_server_model.specs.Calls as far
use Rattle.ftp_server_model.specs.Machine.{IsReading, Reading}
use Rattle.ftp_tree.specs.Sound.{last_second}
use Rattle.laws_world.specs.Agreement.{Order}
use Rattle.laws_world.specs.Claims.{Beginning, world_of}
use Rattle.laws_world.specs.World.{World}
use Rattle.laws_drivers.specs.control.Alike.{IsAlike}
use Rattle.laws_drivers.specs.control.Alone.{AsksAlone, ClientAttends, ClientIsCalm, IsAskingAlone, IsServingAlone, ServerAttends, ServerIsCalm, ServesAlone, Throughout, begun_in, reports_of, reports_in}
use Rattle.laws_drivers.specs.events.Moments.{begun_by}
use Rattle.laws_drivers.specs.control.Between.{Between, CanTurn, Client, Happened, Server, Turn, client_actions, nothing_yet, server_actions}
use Rattle.laws_drivers.specs.control.Claims.{Begins, DrivesAreOfWorlds}
use Rattle.laws_drivers.proofs.control.ClientSteps.{client_begins, client_closed, client_heard, client_read, client_reports, client_said, client_shuts}
use Rattle.laws_drivers.proofs.control.ServerSteps.{Goes, server_aside, server_heard, server_read, server_said}
use Rattle.laws_drivers.proofs.control.Worlds.{LeadsOn, leads_none, leads_then}

-- what holds of the end after actions
pub ends_so : {side : Side} (Is : Action side → Type 0) (Keeps : (old new : side.End) → Type 0) (Stands : side.End → Type 0)
    → (actions : List (Action side)) (start now : Stand side) (led : Led actions start now) → Throughout Is Keeps Stands actions start now led → Stands now.owner
ends_so Is Keeps Stands [] start now led held = held
ends_so Is Keeps Stands (action ∷ before) start now led held = held.3

-- what a client reports in an action
pub reported_is : (said : Option Said) → reports_of (Other (Aside (Reporting said))) ≡ option_to_list said
reported_is None = refl
reported_is (Some said) = refl

module _ (read : Reading) (reads : IsReading read) (moment : ℕ) (timed : moment ≤ last_second) where
  -- an action of the server
  server_goes : (action : Action server_side) → IsServingAlone action → (old new : Stand server_side) (client : Stand client_side) (reports : List Said) (w : World)
      → ServerIsCalm old.owner new.owner → ServerAttends old.owner → ServerAttends new.owner → ClientAttends client.owner → Done action old new
      → (a b : Between) → CanTurn (Server action) a b → IsAlike a.control old client reports w → Goes read [] b.control new client reports w
  server_goes (Heard octets) is old new client reports w calm before after asks did a b can alike =
      subst (λ (m : Between). Goes read [] m.control new client reports w) (sym can)
      (server_heard read reads old new client reports w calm before after asks octets a.control alike did)
  server_goes (Says octets) is old new client reports w calm before after asks did a b can alike =
      subst (λ (m : Between). Goes read [] m.control new client reports w) (sym can)
      (server_said read reads old new client reports w calm before after asks octets a.control alike did)
  server_goes (Read octets) is old new client reports w calm before after asks did a b can alike =
      server_read read reads old new client reports w calm before after asks octets a.control b.control alike did can.0
      (ap (λ (m : Between). m.control.to_client) can.1)
  server_goes (Other (Aside tt)) is old new client reports w calm before after asks did a b can alike =
      subst (λ (m : Between). Goes read [] m.control new client reports w) (sym can)
      (server_aside read reads old new client reports w calm before after asks a.control alike did)
  server_goes action is old new client reports w calm before after asks did a b can alike = absurd is

  -- an action of the client
  client_goes : (action : Action client_side) → IsAskingAlone action → (server : Stand server_side) (old new : Stand client_side) (reports : List Said) (w : World)
      → ClientIsCalm old.owner new.owner → ServerAttends server.owner → ClientAttends old.owner → ClientAttends new.owner → Done action old new
      → (a b : Between) → CanTurn (Client action) a b → IsAlike a.control server old reports w
      → Goes read (begun_by moment action) b.control server new (reports ++ reports_of action) w
  client_goes (Heard octets) is server old new reports w calm serves before after did a b can alike =
      subst (λ (m : Between). Goes read [] m.control server new (reports ++ []) w) (sym can)
      (client_heard read server old new reports w calm serves before after octets a.control alike did)
  client_goes (Says octets) is server old new reports w calm serves before after did a b can alike =
      subst (λ (m : Between). Goes read [] m.control server new (reports ++ []) w) (sym can)
      (client_said read server old new reports w calm serves before after octets a.control alike did)
  client_goes (Read octets) is server old new reports w calm serves before after did a b can alike =
      client_read read server old new reports w calm serves before after octets a.control b.control alike did can.0
      (ap (λ (m : Between). m.control.to_server) can.1)
  client_goes (Other (Aside (Reporting said))) is server old new reports w calm serves before after did a b can alike =
      subst (λ (l : List Said). Goes read [] b.control server new (reports ++ l) w) (sym (reported_is said))
      (subst (λ (m : Between). Goes read [] m.control server new (reports ++ option_to_list said) w) (sym can)
      (client_reports read server old new reports w calm serves before after said a.control alike did))
  client_goes (Other (Aside (Starting op))) is server old new reports w calm serves before after did a b can alike =
      subst (λ (m : Between). Goes read (begun_by moment (Other (Aside (Starting op)))) m.control server new (reports ++ []) w) (sym can)
      (client_begins read server old new reports w calm serves before after op moment timed a.control alike did)
  client_goes (Other (Left Shut)) is server old new reports w calm serves before after did a b can alike =
      subst (λ (m : Between). Goes read [] m.control server new (reports ++ []) w) (sym can)
      (client_shuts read server old new reports w calm serves before after a.control alike did)
  client_goes (Other Closed) is server old new reports w calm serves before after did a b can alike =
      subst (λ (m : Between). Goes read [] m.control server new (reports ++ []) w) (sym can)
      (client_closed read server old new reports w calm serves before after a.control alike did)
  client_goes action is server old new reports w calm serves before after did a b can alike = absurd is

  module _ (b : Beginning) where
    -- after actions, a world is alike both drives
    abbrev Reached : List Turn → Between → Stand server_side → Stand client_side → Type 0
    Reached turns between server client =
        (w : World) × LeadsOn read (begun_in moment (client_actions turns)) (world_of b) w
        × IsAlike between.control server client (reports_in (client_actions turns)) w

    -- as a session begins
    starts_alike : (server : Stand server_side) (client : Stand client_side) → Begins b server client
        → IsAlike nothing_yet.control server client [] (world_of b)
    starts_alike server client begins = record {
      moment = 0;
      near = ap near.reports (sym begins.client_view);
      far = ap (far.clock_step 0) (sym begins.server_view);
      to_server = ap (λ u. u ++ []) (sym begins.server_unheard);
      to_client = ap (λ u. u ++ []) (sym begins.client_unheard);
      reported = ap (λ v. option_to_list (near.report_of v)) (sym begins.client_view);
      control = refl;
      link = refl;
      marks = tt;
      cutoff = refl;
    }

    -- action by action
    reaches : (turns : List Turn) (between : Between) → Happened turns between
        → (server_start server : Stand server_side) (client_start client : Stand client_side) → Begins b server_start client_start
        → (server_led : Led (server_actions turns) server_start server) (client_led : Led (client_actions turns) client_start client)
        → ServesAlone (server_actions turns) server_start server server_led → AsksAlone (client_actions turns) client_start client client_led
        → Reached turns between server client
    reaches [] between happened server_start server client_start client begins server_led client_led serves asks = (
      world_of b,
      leads_none read (world_of b),
      subst (λ (m : Between). IsAlike m.control server client [] (world_of b)) (sym happened)
          (subst (λ s. IsAlike nothing_yet.control s client [] (world_of b)) (sym server_led)
          (subst (λ c. IsAlike nothing_yet.control server_start c [] (world_of b)) (sym client_led) (starts_alike server_start client_start begins))),
    )
    reaches (Server action ∷ before) between happened server_start server client_start client begins server_led client_led serves asks =
        let old = reaches before happened.0 happened.1 server_start server_led.0 client_start client begins server_led.1 client_led serves.0 asks in
        let went = server_goes action serves.1 server_led.0 server client (reports_in (client_actions before)) old.0 serves.2
        (ends_so IsServingAlone ServerIsCalm ServerAttends (server_actions before) server_start server_led.0 server_led.1 serves.0) serves.3
        (ends_so IsAskingAlone ClientIsCalm ClientAttends (client_actions before) client_start client client_led asks)
        server_led.2 happened.0 between happened.2 old.2 in
        let begun : List Order = begun_in moment (client_actions before) in (
          went.world,
          subst (λ o. LeadsOn read o (world_of b) went.world) (append-nil begun) (leads_then read begun [] (world_of b) old.0 went.world old.1 went.leads),
          went.alike,
        )
    reaches (Client action ∷ before) between happened server_start server client_start client begins server_led client_led serves asks =
        let old = reaches before happened.0 happened.1 server_start server client_start client_led.0 begins server_led client_led.1 serves asks.0 in
        let went = client_goes action asks.1 server client_led.0 client (reports_in (client_actions before)) old.0 asks.2
        (ends_so IsServingAlone ServerIsCalm ServerAttends (server_actions before) server_start server server_led serves)
        (ends_so IsAskingAlone ClientIsCalm ClientAttends (client_actions before) client_start client_led.0 client_led.1 asks.0) asks.3 client_led.2
        happened.0 between happened.2 old.2 in (
          went.world,
          leads_then read (begun_in moment (client_actions before)) (begun_by moment action) (world_of b) old.0 went.world old.1 went.leads,
          went.alike,
        )

-- events of a world lead to what both drives hold
pub drives_are_of_worlds : DrivesAreOfWorlds
drives_are_of_worlds read reads b moment timed turns between server client did =
    let reached = reaches read reads moment timed b turns between did.happened did.server_start server did.client_start client did.begins
    did.server_led did.client_led did.serves did.asks in
    record { events = reached.1.events; timed = reached.1.timed; world = reached.0; leads = reached.1.leads; alike = reached.2 }
