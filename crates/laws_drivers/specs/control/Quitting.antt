-- Drives over control alone of which the client's program writes QUIT after the last one, by no action of the client (RFC 959, section 4.1.1).
use Rattle.std.specs.Prelude.{◌≡◌, ℕ, zero, suc, ◌≤◌, List, [], ◌∷◌, take, drop}
use Rattle.ftp_ports.specs.Actions.{Action, Led, Stand}
use Rattle.ftp_client_driver.specs.Side.{client_side}
use Rattle.ftp_client_model.specs.declared.client.Standing.TheVariants as Standings
use Rattle.ftp_operation.specs.Answer.{Said}
use Rattle.ftp_operation.specs.declared.op.Op.{Op}
use Rattle.laws_drivers.specs.control.Alone.{IsServingAlone, ServerIsCalm, ServesAlone}
use Rattle.laws_drivers.specs.control.Between.{Between, Can, Far, Happened, Near, Turn, client_actions, sent, server_actions}
use Rattle.laws_drivers.specs.control.Claims.{Begins}
use Rattle.laws_drivers.specs.control.Over.{AreAnswered, actions_in, orders_at_moment}
use Rattle.laws_drivers.specs.events.Answers.{answers_of}
use Rattle.laws_drivers.specs.control.Touches.{touch_in}
use Rattle.laws_world.specs.Claims.{AreAnswers, Beginning, IsFair, state_of}
use Rattle.ftp_server_driver.specs.alone.Driving.{Drove as ServerDrove}
use Rattle.ftp_server_driver.specs.alone.Side.{server_side}
use Rattle.ftp_tree.specs.Sound.{last_second}

-- QUIT CR LF
abbrev pub quit_octets : List ℕ
quit_octets = 81 ∷ 85 ∷ 73 ∷ 84 ∷ 13 ∷ 10 ∷ []

-- it is written on the client's way
abbrev pub quitting : Between → Between
quitting between = record between { control = sent Near quit_octets between.control }

-- actions of the server, the last one first, each when it could be done, and no other end did any
abbrev pub HappenedAlone : List (Action server_side) → (old now : Between) → Type 0
HappenedAlone [] old now = now ≡ old
HappenedAlone (action ∷ before) old now = (mid : Between) × HappenedAlone before old mid × Can Far (touch_in action) mid now

-- all but so many of the last actions served control alone; those, too, were beside the control connection alone, and nothing was refused or failed
abbrev pub ServedAndLeft : (count : ℕ) → (actions : List (Action server_side)) → (start now : Stand server_side) → Led actions start now → Type 0
ServedAndLeft zero actions start now led = ServesAlone actions start now led
ServedAndLeft (suc count) [] start now led = ⊥
ServedAndLeft (suc count) (action ∷ before) start now led =
    ServedAndLeft count before start led.0 led.1 × IsServingAlone action × ServerIsCalm led.0.owner now.owner

-- the contracts of the drives, and an order of their actions in which each can happen; after all of the client's, which is logged in, QUIT was
-- written, and so many of the server's actions came after that: then its drive was over
pub record HaveQuit (b : Beginning) (asked : List (Op (List ℕ) × Said)) (server : Stand server_side) : Type 0 where
  pub server_start : Stand server_side
  pub client_start : Stand client_side
  pub client : Stand client_side
  pub begins : Begins b server_start client_start
  pub drove : ServerDrove server_start server
  pub count : ℕ
  pub served : ServedAndLeft count drove.did.actions server_start drove.did.sums.led.0 drove.did.sums.led.1
  pub answered : AreAnswered asked client_start client
  pub entered : client.owner.end.view.standing ≡ Standings.Entered
  pub turns : List Turn
  pub between : Between
  pub happened : Happened turns between
  pub server_is : server_actions turns ≡ drop count drove.did.actions
  pub client_is : client_actions turns ≡ actions_in asked client_start client answered
  pub last : Between
  pub happened_last : HappenedAlone (take count drove.did.actions) (quitting between) last

-- the answers that a client's drives gave, and the map that the server's drive left, are those of the operations run directly
abbrev pub DrivesThatQuitAreTheDirectRun : Type 0
DrivesThatQuitAreTheDirectRun =
    (b : Beginning) → IsFair b → (moment : ℕ) → moment ≤ last_second → (asked : List (Op (List ℕ) × Said)) (server : Stand server_side)
    → HaveQuit b asked server → AreAnswers (state_of b) (orders_at_moment moment asked) (answers_of asked) server.owner.end.server.view.session.table
