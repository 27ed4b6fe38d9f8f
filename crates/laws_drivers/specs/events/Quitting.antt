-- Drives of which the client's program writes QUIT after the last one, by no action of the client (RFC 959, section 4.1.1).
use Rattle.std.specs.Prelude.{◌≡◌, ℕ, List, [], ◌∷◌, ◌++◌}
use Rattle.ftp_ports.specs.Asking.{Asked}
use Rattle.ftp_ports.specs.Actions.{Action, Done, Led, Other, Stand}
use Rattle.ftp_ports.specs.Machine.{Held, Left}
use Rattle.ftp_client_driver.specs.Side.{client_side}
use Rattle.ftp_client_model.specs.declared.client.Standing.TheVariants as Standings
use Rattle.ftp_operation.specs.Answer.{Said}
use Rattle.ftp_operation.specs.declared.op.Op.{Op}
use Rattle.ftp_server_driver.specs.alone.Driving.{Drove as ServerDrove}
use Rattle.ftp_server_driver.specs.alone.Side.{Timed, server_side}
use Rattle.laws_drivers.specs.control.Alone.{ServerIsCalm}
use Rattle.laws_drivers.specs.control.Between.{Between, Happened, Turn, client_actions, server_actions}
use Rattle.laws_drivers.specs.control.Claims.{Begins}
use Rattle.laws_drivers.specs.control.Quitting.{HappenedAlone, quitting}
use Rattle.laws_drivers.specs.events.Actions.{Along, IsLast}
use Rattle.laws_drivers.specs.events.Answers.{AreAnswered, actions_in, actions_of_server, answers_of, orders_at}
use Rattle.laws_drivers.specs.events.Faults.{Faults, ServerGoes}
use Rattle.laws_drivers.specs.events.Moments.{AreMoments, AreToldAt}
use Rattle.laws_world.specs.Claims.{AreAnswers, Beginning, IsFair, state_of}

-- what a server does from then on: no more than that, and it is refused nothing, and nothing fails
abbrev pub ServerLeaves : Action server_side → (old new : Held Timed) → Type 0
ServerLeaves action old new = IsLast action × ServerIsCalm old new

abbrev pub LeavesAlong : (actions : List (Action server_side)) (start now : Stand server_side) → Led actions start now → Type 0
LeavesAlong actions start now led = Along ServerLeaves actions start now led

module _ (faults : Faults) where
  -- The contracts of the drives, and an order of their actions in which each can happen, and at these moments; after all of the client's, which is logged in,
  -- QUIT was written, and the server's last actions came after that: then its drive was over. As they began no octet of a data connection was on its way or in
  -- hand.
  pub record HaveQuit (b : Beginning) (moments : ℕ → ℕ) (asked : List (Op (List ℕ) × Said)) (server : Stand server_side) : Type 0 where
    pub server_start : Stand server_side
    pub client_start : Stand client_side
    pub client : Stand client_side
    pub begins : Begins b server_start client_start
    pub untold : server_start.owner.channel.untold ≡ []
    pub unwritten : client_start.owner.channel.unwritten ≡ []
    pub server_unwritten : server_start.owner.channel.unwritten ≡ []
    pub client_untold : client_start.owner.channel.untold ≡ []
    pub drove : ServerDrove server_start server
    pub answered : AreAnswered faults.IsAnswer asked client_start client
    pub entered : client.owner.end.view.standing ≡ Standings.Entered
    pub turns : List Turn
    pub between : Between
    pub happened : Happened turns between
    pub closed : Asked
    pub finals : List (Action server_side)
    pub server_is : actions_of_server drove ≡ Other (Left closed) ∷ (finals ++ server_actions turns)
    pub client_is : client_actions turns ≡ actions_in faults.IsAnswer asked client_start client answered
    pub mid : Stand server_side
    pub server_led : Led (server_actions turns) server_start mid
    pub serves : Along (ServerGoes faults) (server_actions turns) server_start mid server_led
    pub ports : faults.ArePorts turns
    pub told : AreToldAt moments turns server_start mid server_led
    pub ordered : faults.AreOrdered moments turns between happened server_start mid server_led
    pub off : Stand server_side
    pub final_led : Led finals mid off
    pub leaves : LeavesAlong finals mid off final_led
    pub left : Done (Other (Left closed)) off server
    pub last : Between
    pub happened_last : HappenedAlone finals (quitting between) last

  -- the answers that a client's drives gave, and the map that the server's drive left, are those of the operations run directly
  abbrev pub QuitAreTheDirectRun : Type 0
  QuitAreTheDirectRun =
      (b : Beginning) → IsFair b → (moments : ℕ → ℕ) → AreMoments moments → (asked : List (Op (List ℕ) × Said)) (server : Stand server_side)
      → HaveQuit b moments asked server → AreAnswers (state_of b) (orders_at moments asked) (answers_of asked) server.owner.end.server.view.session.table
