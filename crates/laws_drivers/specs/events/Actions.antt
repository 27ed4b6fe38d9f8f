-- The actions of one server's drive and of drives of one client over data connections that the server listens for, as the claims of sessions ask for them: what is
-- so along all of them, the peer, the ports, and what is in the midst of a drive or behind QUIT (RFC 959, sections 3.2 and 4.1.2).
use Rattle.std.specs.Prelude.{◌≡◌, ⊤, ℕ, Bool, true, not, List, [], ◌∷◌, Option, Some, None}
use Rattle.ftp_ends.specs.Link.{same_host}
use Rattle.ftp_endpoint.specs.declared.host.Host.{Host}
use Rattle.ftp_ports.specs.Actions.{Action, Heard, Said as Says, Read, Other, Stand, Led}
use Rattle.ftp_ports.specs.Machine.{Held, Aside, Closed, Left, Listening}
use Rattle.ftp_ports.specs.Side.{Side}
use Rattle.ftp_client_driver.specs.Side.{Reporting, client_side}
use Rattle.ftp_operation.specs.declared.op.How.{How}
use Rattle.ftp_server_driver.specs.alone.Side.{Timed, server_side}
use Rattle.laws_world.specs.World.{next_listen, port_at}

-- each action is such between the end before it and the end after it
module _ {side : Side} (Is : Action side → (old new : side.End) → Type 0) where
  abbrev pub Along : (actions : List (Action side)) (start now : Stand side) → Led actions start now → Type 0
  Along [] start now led = ⊤
  Along (action ∷ before) start now led = Along before start led.0 led.1 × Is action led.0.owner now.owner

-- ---- the server

-- who comes is the peer of the control connection
abbrev pub IsPeer : Host → Held Timed → Type 0
IsPeer host at = same_host host at.end.server.view.context.peer ≡ true

-- after so many actions, the last one first, so many ports were told, as a world counts them
abbrev pub listened_in : List (Action server_side) → ℕ
listened_in [] = 0
listened_in (Other (Listening port) ∷ before) = next_listen (listened_in before)
listened_in (action ∷ before) = listened_in before

-- the ports are those of a world, one after another
abbrev pub ArePorts : List (Action server_side) → Type 0
ArePorts [] = ⊤
ArePorts (Other (Listening port) ∷ before) = ArePorts before × (port ≡ port_at (listened_in before))
ArePorts (action ∷ before) = ArePorts before

-- what it does once QUIT was written: it hears and says, and leaves a data connection or a port that is to be closed
abbrev pub IsLast : Action server_side → Type 0
IsLast (Heard octets) = ⊤
IsLast (Says octets) = ⊤
IsLast (Read octets) = ⊤
IsLast (Other (Aside asked)) = ⊤
IsLast (Other (Left asked)) = ⊤
IsLast (Other Closed) = ⊤
IsLast action = ⊥

-- ---- the client

-- the client is to dial, where there is a transfer at all
abbrev pub is_dialling : Option How → Bool
is_dialling None = true
is_dialling (Some how) = not how.active

-- none is begun in the midst of a drive, and none reported
abbrev pub IsMidst : Action client_side → Type 0
IsMidst (Other (Aside (Reporting None))) = ⊤
IsMidst (Other (Aside own)) = ⊥
IsMidst action = ⊤

abbrev pub AreMidst : List (Action client_side) → Type 0
AreMidst [] = ⊤
AreMidst (action ∷ before) = AreMidst before × IsMidst action
