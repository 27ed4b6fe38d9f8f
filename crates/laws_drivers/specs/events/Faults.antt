-- Faults of one kind that may come between a server's drive and drives of a client: what each of both does, and in which order; that they did so; and what is
-- claimed of them, at every moment.
use Rattle.std.specs.Prelude.{◌≡◌, ℕ, false, List, [], ◌++◌, length, Option, None, Some, option_to_list}
use Rattle.ftp_ports.specs.Actions.{Action, Led, Stand}
use Rattle.ftp_ports.specs.Machine.{Held}
use Rattle.ftp_client_driver.specs.Side.{client_side}
use Rattle.ftp_client_model.specs.Calls.{control_end, is_busy, report_of}
use Rattle.ftp_client_model.specs.Failing.{Client}
use Rattle.ftp_client_model.specs.View.{View as Near}
use Rattle.ftp_operation.specs.Answer.{Said}
use Rattle.ftp_operation.specs.declared.op.Op.{Op}
use Rattle.ftp_server_driver.specs.alone.Side.{Timed, server_side}
use Rattle.laws_drivers.specs.control.Alone.{ClientIsCalm, ServerIsCalm, reports_in}
use Rattle.laws_drivers.specs.control.Between.{Between, Happened, Turn, client_actions, server_actions}
use Rattle.laws_drivers.specs.control.Claims.{Begins}
use Rattle.laws_drivers.specs.events.Actions.{Along}
use Rattle.laws_drivers.specs.events.Answers.{Answers}
use Rattle.laws_drivers.specs.events.Moments.{AreMoments, AreToldAt, begun_at}
use Rattle.laws_world.specs.Agreement.{Agrees}
use Rattle.laws_world.specs.Claims.{AreAnswers, Beginning, IsFair, state_of}
use Rattle.laws_world.specs.World.{Mark}

-- Which actions the server does, and which the client, as either holds this; which ports are told, and what else is so of an order of their actions, and of the
-- client's actions; how a drive of the client answers; and the marks that a world has of these actions.
pub record Faults : Type 1 where
  pub Serves : Action server_side → Held Timed → Type 0
  pub Asks : Action client_side → Held Client → Type 0
  pub ArePorts : List Turn → Type 0
  pub AreOrdered : (moments : ℕ → ℕ) (turns : List Turn) (between : Between) → Happened turns between → (start now : Stand server_side)
      → Led (server_actions turns) start now → Type 0
  pub AreShort : (actions : List (Action client_side)) (start now : Stand client_side) → Led actions start now → Type 0
  pub IsAnswer : (op : Op (List ℕ)) (answer : Said) (old new : Stand client_side) → Answers op answer old new → Type 0
  pub AreMarks : (turns : List Turn) (start now : Stand server_side) → Led (server_actions turns) start now
      → (client_start client : Stand client_side) → Led (client_actions turns) client_start client → List (List Mark) → Type 0

module _ (faults : Faults) where
  -- the server does such an action, and it was not refused memory, and no device of it failed or strayed
  abbrev pub ServerGoes : Action server_side → (old new : Held Timed) → Type 0
  ServerGoes action old new = faults.Serves action old × ServerIsCalm old new

  -- so does the client, and it was not refused memory
  abbrev pub ClientGoes : Action client_side → (old new : Held Client) → Type 0
  ClientGoes action old new = faults.Asks action old × ClientIsCalm old new

  -- one server's drive and drives of one client did these actions in this order, each when it could be done, and at these moments; as they began no octet of a
  -- data connection was on its way or in hand
  pub record Did (b : Beginning) (moments : ℕ → ℕ) (turns : List Turn) (between : Between) (server : Stand server_side)
      (client : Stand client_side) : Type 0 where
    pub server_start : Stand server_side
    pub client_start : Stand client_side
    pub begins : Begins b server_start client_start
    pub untold : server_start.owner.channel.untold ≡ []
    pub unwritten : client_start.owner.channel.unwritten ≡ []
    pub server_unwritten : server_start.owner.channel.unwritten ≡ []
    pub client_untold : client_start.owner.channel.untold ≡ []
    pub happened : Happened turns between
    pub server_led : Led (server_actions turns) server_start server
    pub client_led : Led (client_actions turns) client_start client
    pub serves : Along ServerGoes (server_actions turns) server_start server server_led
    pub asks : Along ClientGoes (client_actions turns) client_start client client_led
    pub ports : faults.ArePorts turns
    pub told : AreToldAt moments turns server_start server server_led
    pub ordered : faults.AreOrdered moments turns between happened server_start server server_led
    pub short : faults.AreShort (client_actions turns) client_start client client_led

  -- so reports and map agree with what was begun, the report of this client among them, with marks of these actions; from so many on an operation is lost
  abbrev pub AgreeWith : (cutoff : List (List Mark) → Option ℕ) (reporting : Near → Near) → Type 0
  AgreeWith cutoff reporting =
      (b : Beginning) → IsFair b → (moments : ℕ → ℕ) → AreMoments moments
      → (turns : List Turn) (between : Between) (server : Stand server_side) (client : Stand client_side)
      → (did : Did b moments turns between server client)
      → (marks : List (List Mark)) × faults.AreMarks turns did.server_start server did.server_led did.client_start client did.client_led marks
      × Agrees (state_of b) (begun_at moments (client_actions turns)) marks (cutoff marks)
      (reports_in (client_actions turns) ++ option_to_list (report_of (reporting client.owner.end.view))) server.owner.end.server.view.session.table

  -- a report that was not taken yet is among them
  abbrev pub Agree : Type 0
  Agree = AgreeWith (λ marks. None) (λ view. view)

  -- so they do where both ends are told then, whatever was on its way, that the control connection ended: an operation that has no report is lost
  abbrev pub PartingAgree : Type 0
  PartingAgree = AgreeWith (λ marks. Some (length marks)) control_end

  -- where each operation has its report, reports and map are those of the operations run directly
  abbrev pub AreTheDirectRun : Type 0
  AreTheDirectRun =
      (b : Beginning) → IsFair b → (moments : ℕ → ℕ) → AreMoments moments
      → (turns : List Turn) (between : Between) (server : Stand server_side) (client : Stand client_side)
      → Did b moments turns between server client → is_busy client.owner.end.view ≡ false
      → length (reports_in (client_actions turns)) ≡ length (begun_at moments (client_actions turns))
      → AreAnswers (state_of b) (begun_at moments (client_actions turns)) (reports_in (client_actions turns)) server.owner.end.server.view.session.table
