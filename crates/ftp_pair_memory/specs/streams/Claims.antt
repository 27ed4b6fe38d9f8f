-- What is claimed of turns beside data connections in memory (RFC 959, section 3.2).
use Rattle.std.specs.Prelude.{◌≡◌, ℕ, List, ◌++◌, map, Some}
use Rattle.ftp_client_driver.specs.Side.{client_machine}
use Rattle.ftp_ports.specs.Asking.{Asked}
use Rattle.ftp_ports.specs.Actions.{Action, Led, read_in, said_in}
use Rattle.ftp_ports.specs.Machine.{Held, Machine, side_of}
use Rattle.laws_drivers.specs.control.Between.{Far, Near, Ways, Who}
use Rattle.ftp_pair_memory.specs.streams.LinkState.{LinkState, IsAtLinkState, Knows, LinkRan, between_by}
use Rattle.ftp_pair_memory.specs.streams.Order.{CameAlone, CountedAlone, WentAlone}
use Rattle.ftp_pair_memory.specs.streams.Plain.{plain, plain_held, quiet}
use Rattle.ftp_server_driver.specs.alone.Side.{server_machine}

-- what an end and its peer are still to read of the control connection
abbrev pub ways_at : Who → (mine peers : List ℕ) → Ways
ways_at Near mine peers = record { to_server = peers; to_client = mine }
ways_at Far mine peers = record { to_server = mine; to_client = peers }

-- actions of one end beside a data connection in memory, as what it tells is let go, as they happen, as ports are told in them, and by who comes
-- of the control connection `up` was written to the peer before, and `down` is still to be read by this end
pub record Happening (who : Who) {end : Machine} (actions : List (Action (side_of end))) (old new : Held end.Here) (own now peer : LinkState)
    (up down : List ℕ) : Type 0 where
  pub led : Led (map plain actions) (quiet (plain_held old)) (quiet (plain_held new))
  pub went : WentAlone who (map plain actions) (between_by who own peer (ways_at who (read_in actions ++ down) up))
      (between_by who now peer (ways_at who down (up ++ said_in actions)))
  pub counted : CountedAlone (map plain actions) own.listens now.listens
  pub came : CameAlone own.host (map plain actions)
  pub host : now.host ≡ own.host

-- so it is where ports know in which link state the data connection was before and is after, and told all that was asked between; so much was told before
abbrev pub HappensAtPorts : Who → Machine → Type 0
HappensAtPorts who end =
    (actions : List (Action (side_of end))) (old new : Held end.Here) (first last own now peer : LinkState) (header asked : List Asked) (up down : List ℕ)
    → Led actions (quiet old) (quiet new) → IsAtLinkState old.channel first own → IsAtLinkState new.channel last now
    → old.channel.asked ≡ Some header → new.channel.asked ≡ Some (asked ++ header) → LinkRan first asked last → Knows own peer
    → Happening who actions old new own now peer up down

-- turns of a client happen so
abbrev pub NearTurnsHappen : Type 0
NearTurnsHappen = HappensAtPorts Near client_machine

-- turns of a server happen so
abbrev pub FarTurnsHappen : Type 0
FarTurnsHappen = HappensAtPorts Far server_machine
