-- Control alone: while no data connection is wanted, the actions of one server's drive and of drives of one client (RFC 959, section 2.3).
use Rattle.std.specs.Prelude.{◌≡◌, ⊤, ℕ, List, [], ◌∷◌, ◌++◌, Some, None}
use Rattle.ftp_ports.specs.Asking.{Shut}
use Rattle.ftp_ports.specs.Actions.{Action, Heard, Said as Says, Read, Other, Stand, Led}
use Rattle.ftp_ports.specs.Machine.{Held, Aside, Left, Closed}
use Rattle.ftp_ports.specs.Side.{Side}
use Rattle.ftp_client_driver.specs.Side.{Reporting, Starting, client_side}
use Rattle.ftp_client_model.specs.Calls as near
use Rattle.ftp_client_model.specs.Failing.{Client}
use Rattle.ftp_ends.specs.declared.link.Wants.TheVariants as Want
use Rattle.ftp_operation.specs.Answer.{Said}
use Rattle.laws_drivers.specs.events.Moments.{begun_at}
use Rattle.laws_world.specs.Agreement.{Order}
use Rattle.ftp_server_driver.specs.alone.Side.{Timed, server_side}
use Rattle.ftp_server_model.specs.Calls as far
use Rattle.ftp_server_model.specs.declared.session.Life.TheVariants as Lives

-- a server that waits for octets of the control connection and for nothing else: QUIT did not come, and no line waits
pub record ServerAttends (at : Held Timed) : Type 0 where
  pub wants : far.wants at.end.server.view ≡ Want.Nothing
  pub running : at.end.server.view.session.life ≡ Lives.Running
  pub none_waits : at.end.server.view.waiting ≡ None

-- so does a client
abbrev pub ClientAttends : Held Client → Type 0
ClientAttends at = near.wants at.end.view ≡ Want.Nothing

-- actions of a server beside the control connection alone
abbrev pub IsServingAlone : Action server_side → Type 0
IsServingAlone (Heard octets) = ⊤
IsServingAlone (Says octets) = ⊤
IsServingAlone (Read octets) = ⊤
IsServingAlone (Other (Aside asked)) = ⊤
IsServingAlone other = ⊥

-- those of a client: operations are begun, but no upload over breaks, and reports are taken; a drive that is over shuts its port
abbrev pub IsAskingAlone : Action client_side → Type 0
IsAskingAlone (Heard octets) = ⊤
IsAskingAlone (Says octets) = ⊤
IsAskingAlone (Read octets) = ⊤
IsAskingAlone (Other (Aside (Reporting said))) = ⊤
IsAskingAlone (Other (Aside (Starting op))) = ⊤
IsAskingAlone (Other (Left Shut)) = ⊤
IsAskingAlone (Other Closed) = ⊤
IsAskingAlone other = ⊥

-- the server was not refused memory, and no device of it failed or strayed
abbrev pub ServerIsCalm : (old new : Held Timed) → Type 0
ServerIsCalm old new = new.end.server.counts ≡ old.end.server.counts

-- nor was the client refused memory
abbrev pub ClientIsCalm : (old new : Held Client) → Type 0
ClientIsCalm old new = new.end.refusals ≡ old.end.refusals

-- each of these actions is such, the end before and the end after it keep this, and the end stands so at the start and after each
module _ {side : Side} (Is : Action side → Type 0) (Keeps : (old new : side.End) → Type 0) (Stands : side.End → Type 0) where
  abbrev pub Throughout : (actions : List (Action side)) (start now : Stand side) → Led actions start now → Type 0
  Throughout [] start now led = Stands now.owner
  Throughout (action ∷ before) start now led =
      Throughout before start led.0 led.1 × Is action × Keeps led.0.owner now.owner × Stands now.owner

-- a server served control alone
abbrev pub ServesAlone : (actions : List (Action server_side)) (start now : Stand server_side) → Led actions start now → Type 0
ServesAlone actions start now led = Throughout IsServingAlone ServerIsCalm ServerAttends actions start now led

-- a client asked over control alone
abbrev pub AsksAlone : (actions : List (Action client_side)) (start now : Stand client_side) → Led actions start now → Type 0
AsksAlone actions start now led = Throughout IsAskingAlone ClientIsCalm ClientAttends actions start now led

-- ---- what the client began and reported

-- in actions, the last one first, each operation at this moment: none of them looks at it
abbrev pub begun_in : (moment : ℕ) → List (Action client_side) → List Order
begun_in moment actions = begun_at (λ n. moment) actions

abbrev pub reports_of : Action client_side → List Said
reports_of (Other (Aside (Reporting (Some said)))) = said ∷ []
reports_of other = []

abbrev pub reports_in : List (Action client_side) → List Said
reports_in [] = []
reports_in (action ∷ before) = reports_in before ++ reports_of action
