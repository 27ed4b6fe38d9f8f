-- The actions of one server's drive and of drives of one client while files are put, fetched and peeked into, and listings, over data connections that either of
-- both listens for (RFC 959, section 3.2), and the ports of both.
use Rattle.std.specs.Prelude.{◌≡◌, ⊤, ℕ, true, false, List, [], ◌∷◌}
use Rattle.ftp_ports.specs.Asking.{Came, Connected}
use Rattle.ftp_ports.specs.Actions.{Action, Other, Stand, Led}
use Rattle.ftp_ports.specs.Machine.{Held, Aside, Listening, Opened}
use Rattle.ftp_client_driver.specs.Side.{Starting, client_side}
use Rattle.ftp_client_model.specs.Failing.{Client}
use Rattle.ftp_ends.specs.Link.{same_host}
use Rattle.ftp_server_driver.specs.alone.Side.{Timed, server_side}
use Rattle.laws_world.specs.World.{next_listen, port_at}
use Rattle.laws_drivers.specs.control.Alone.{ClientIsCalm, ServerIsCalm}
use Rattle.laws_drivers.specs.control.Between.{Client as ByClient, Server as ByServer, Turn}
use Rattle.laws_drivers.specs.events.Actions.{Along}
use Rattle.laws_transfers.specs.Actions as passive

-- ---- the server

-- it does all that it does where it listens alone, and it dials
abbrev pub IsServingOrDialling : Action server_side → Held Timed → Type 0
IsServingOrDialling (Other (Opened host (Connected endpoint left written ∷ []) at_first so_far rest)) at = ⊤
IsServingOrDialling action at = passive.IsServing action at

-- so it does, and it was not refused memory, and no device of it failed or strayed
abbrev pub ServerTransfersEitherWay : Action server_side → (old new : Held Timed) → Type 0
ServerTransfersEitherWay action old new = IsServingOrDialling action old × ServerIsCalm old new

abbrev pub ServesAlongEitherWay : (actions : List (Action server_side)) (start now : Stand server_side) → Led actions start now → Type 0
ServesAlongEitherWay actions start now led = Along ServerTransfersEitherWay actions start now led

-- ---- the client

-- it begins operations as where it dials alone, for which either dials, once nothing is to be closed; it listens at its ports, accepts its peer there, and does
-- all else that it does where it dials alone
abbrev pub IsAskingOrListening : Action client_side → Held Client → Type 0
IsAskingOrListening (Other (Aside (Starting op))) at = passive.IsCarried op × (at.end.view.closing ≡ false)
IsAskingOrListening (Other (Listening port)) at = ⊤
IsAskingOrListening (Other (Opened host (Came from left written ∷ []) at_first so_far rest)) at = same_host host at.end.view.peer ≡ true
IsAskingOrListening action at = passive.IsAsking action at

-- so it does, and it was not refused memory
abbrev pub ClientTransfersEitherWay : Action client_side → (old new : Held Client) → Type 0
ClientTransfersEitherWay action old new = IsAskingOrListening action old × ClientIsCalm old new

abbrev pub AsksAlongEitherWay : (actions : List (Action client_side)) (start now : Stand client_side) → Led actions start now → Type 0
AsksAlongEitherWay actions start now led = Along ClientTransfersEitherWay actions start now led

-- ---- ports

-- in an order, the last action first, so many ports were told to both, as a world counts them
abbrev pub listened_in_turns : List Turn → ℕ
listened_in_turns [] = 0
listened_in_turns (ByServer (Other (Listening port)) ∷ before) = next_listen (listened_in_turns before)
listened_in_turns (ByClient (Other (Listening port)) ∷ before) = next_listen (listened_in_turns before)
listened_in_turns (turn ∷ before) = listened_in_turns before

-- the ports of both are those of a world, one after another
abbrev pub ArePortsOfTurns : List Turn → Type 0
ArePortsOfTurns [] = ⊤
ArePortsOfTurns (ByServer (Other (Listening port)) ∷ before) = ArePortsOfTurns before × (port ≡ port_at (listened_in_turns before))
ArePortsOfTurns (ByClient (Other (Listening port)) ∷ before) = ArePortsOfTurns before × (port ≡ port_at (listened_in_turns before))
ArePortsOfTurns (turn ∷ before) = ArePortsOfTurns before
