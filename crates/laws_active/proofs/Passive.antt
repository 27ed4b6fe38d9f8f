-- Actions over data connections that the server alone listens for are actions over such as either listens for.
use Rattle.std.proofs.Common.{◌≡◌, List, [], ◌∷◌, refl, sym, ap, ◌∙◌}
use Rattle.ftp_ports.specs.Asking.{Came, Connected}
use Rattle.ftp_ports.specs.Actions.{Action, Led, Other, Stand}
use Rattle.ftp_ports.specs.Machine.{Aside, Held, Listening, Opened}
use Rattle.ftp_client_driver.specs.Side.{Starting, client_side}
use Rattle.ftp_client_model.specs.Failing.{Client}
use Rattle.ftp_server_driver.specs.alone.Side.{Timed, server_side}
use Rattle.laws_world.specs.World.{next_listen, port_at}
use Rattle.laws_drivers.specs.control.Between.{Client as ByClient, Server as ByServer, Turn, client_actions, server_actions}
use Rattle.laws_drivers.specs.events.Actions as passive_ports
use Rattle.laws_transfers.specs.Actions as passive
use Rattle.laws_transfers.specs.Claims as passive_claims
use Rattle.laws_drivers.proofs.events.Within.{did_within}
use Rattle.laws_active.specs.Claims.{PassiveIsEither, no_faults_either_way}
use Rattle.laws_active.specs.Actions.{ArePortsOfTurns, IsAskingOrListening, IsServingOrDialling, listened_in_turns}

-- ---- ports

-- those of an order are those of the server
abbrev AreSame : List Turn → Type 0
AreSame turns = (listened_in_turns turns ≡ passive_ports.listened_in (server_actions turns)) × ArePortsOfTurns turns

server_same : (action : Action server_side) (before : List Turn) → (passive_ports.ArePorts (server_actions before) → AreSame before)
    → passive_ports.ArePorts (action ∷ server_actions before) → AreSame (ByServer action ∷ before)
server_same (Other (Listening port)) before first ports =
    let one = first ports.0 in (ap next_listen one.0, (one.1, ports.1 ∙ ap port_at (sym one.0)))
server_same action before first ports = first ports

-- since a client that dials alone listens at none
client_same : (action : Action client_side) (before : List Turn) (at : Held Client) → passive.IsAsking action at → AreSame before → AreSame (ByClient action ∷ before)
client_same (Other (Listening port)) before at is one = absurd is
client_same action before at is one = one

ports_too : (turns : List Turn) (start now : Stand client_side) (led : Led (client_actions turns) start now)
    → passive.AsksAlong (client_actions turns) start now led
    → passive_ports.ArePorts (server_actions turns) → AreSame turns
ports_too [] start now led along ports = (refl, tt)
ports_too (ByServer action ∷ before) start now led along ports = server_same action before (ports_too before start now led along) ports
ports_too (ByClient action ∷ before) start now led along ports =
    client_same action before led.0.owner along.1.0 (ports_too before start led.0 led.1 along.0 ports)

-- ---- actions

-- a server that listens alone does no other
serving_too : (action : Action server_side) (at : Held Timed) → passive.IsServing action at → IsServingOrDialling action at
serving_too (Other (Opened host (Connected endpoint left written ∷ []) at_first so_far rest)) at is = tt
serving_too action at is = is

-- nor does a client that dials alone
asking_too : (action : Action client_side) (at : Held Client) → passive.IsAsking action at → IsAskingOrListening action at
asking_too (Other (Aside (Starting op))) at is = (is.0.0, is.1)
asking_too (Other (Listening port)) at is = tt
asking_too (Other (Opened host (Came from left written ∷ []) at_first so_far rest)) at is = absurd is
asking_too action at is = is

pub passive_is_either : PassiveIsEither
passive_is_either = did_within passive_claims.no_faults no_faults_either_way (record {
  serves = serving_too;
  asks = asking_too;
  ports = λ turns start now led along ports. (ports_too turns start now led along ports).1;
  ordered = λ moments turns between happened start now led resets. resets;
  short = λ actions start now led short. short;
})
