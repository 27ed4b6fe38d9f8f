-- Drives that are over: what the contracts of one server's drive and of a client's drives tell, each after the operation that it answers, put together.
use Rattle.std.specs.Prelude.{◌≡◌, ℕ, List, [], ◌∷◌, None}
use Rattle.ftp_ports.specs.Asking.{Asked}
use Rattle.ftp_ports.specs.Actions.{Ended, Led, Other, Stand}
use Rattle.ftp_ports.specs.Machine.{Left}
use Rattle.ftp_client_driver.specs.Side.{client_side}
use Rattle.ftp_operation.specs.Answer.{Said}
use Rattle.ftp_operation.specs.declared.op.Op.{Op}
use Rattle.ftp_server_driver.specs.alone.Driving.{Drove as ServerDrove}
use Rattle.ftp_server_driver.specs.alone.Side.{server_side}
use Rattle.laws_drivers.specs.control.Between.{Between, Happened, Turn, client_actions, server_actions}
use Rattle.laws_drivers.specs.control.Claims.{Begins}
use Rattle.laws_drivers.specs.events.Actions.{Along}
use Rattle.laws_drivers.specs.events.Answers.{AreAnswered, actions_in, actions_of_server, answers_of, orders_at}
use Rattle.laws_drivers.specs.events.Faults.{Faults, ServerGoes}
use Rattle.laws_drivers.specs.events.Moments.{AreMoments, AreToldAt}
use Rattle.laws_world.specs.Agreement.{Agrees}
use Rattle.laws_world.specs.Claims.{AreAnswers, Beginning, IsFair, state_of}
use Rattle.laws_world.specs.World.{Mark}

module _ (faults : Faults) where
  -- The contracts of the drives, and an order of their actions in which each can happen, and at these moments; as they began no octet of a data connection was
  -- on its way or in hand. The server's drive did the same until it was told that the control connection ended; then it was over, and left the data connection
  -- that it still had, if it had one.
  pub record AreOver (b : Beginning) (moments : ℕ → ℕ) (asked : List (Op (List ℕ) × Said)) (server : Stand server_side) : Type 0 where
    pub server_start : Stand server_side
    pub client_start : Stand client_side
    pub client : Stand client_side
    pub begins : Begins b server_start client_start
    pub untold : server_start.owner.channel.untold ≡ []
    pub unwritten : client_start.owner.channel.unwritten ≡ []
    pub server_unwritten : server_start.owner.channel.unwritten ≡ []
    pub client_untold : client_start.owner.channel.untold ≡ []
    pub drove : ServerDrove server_start server
    pub answered : AreAnswered faults.IsAnswer asked client_start client
    pub turns : List Turn
    pub between : Between
    pub happened : Happened turns between
    pub closed : Asked
    pub server_is : actions_of_server drove ≡ Other (Left closed) ∷ Ended ∷ server_actions turns
    pub client_is : client_actions turns ≡ actions_in faults.IsAnswer asked client_start client answered
    pub last : Stand server_side
    pub server_led : Led (server_actions turns) server_start last
    pub server_end : Led (Other (Left closed) ∷ Ended ∷ []) last server
    pub serves : Along (ServerGoes faults) (server_actions turns) server_start last server_led
    pub ports : faults.ArePorts turns
    pub told : AreToldAt moments turns server_start last server_led
    pub ordered : faults.AreOrdered moments turns between happened server_start last server_led

  -- the answers that a client's drives gave, and the map that the server's drive left, are those of the operations run directly
  abbrev pub OverAreTheDirectRun : Type 0
  OverAreTheDirectRun =
      (b : Beginning) → IsFair b → (moments : ℕ → ℕ) → AreMoments moments → (asked : List (Op (List ℕ) × Said)) (server : Stand server_side)
      → AreOver b moments asked server → AreAnswers (state_of b) (orders_at moments asked) (answers_of asked) server.owner.end.server.view.session.table

  -- with marks of these actions they agree with the operations, where those of the client led so
  abbrev pub AgreeAsOver : {b : Beginning} {moments : ℕ → ℕ} {asked : List (Op (List ℕ) × Said)} {server : Stand server_side}
      → (over : AreOver b moments asked server) → Led (client_actions over.turns) over.client_start over.client → Type 0
  AgreeAsOver {b = b} {moments = moments} {asked = asked} {server = server} over client_led =
      (marks : List (List Mark)) × faults.AreMarks over.turns over.server_start over.last over.server_led over.client_start over.client client_led marks
      × Agrees (state_of b) (orders_at moments asked) marks None (answers_of asked) server.owner.end.server.view.session.table
