-- Of faults of which all may come that may come of others, what both drives did is such there, too.
use Rattle.std.proofs.Common.{ℕ, List}
use Rattle.ftp_ports.specs.Actions.{Action, Led, Stand}
use Rattle.ftp_ports.specs.Machine.{Held}
use Rattle.ftp_client_driver.specs.Side.{client_side}
use Rattle.ftp_client_model.specs.Failing.{Client}
use Rattle.ftp_server_driver.specs.alone.Side.{Timed, server_side}
use Rattle.laws_drivers.specs.control.Between.{Between, Happened, Turn, client_actions, server_actions}
use Rattle.laws_drivers.specs.events.Actions.{Along}
use Rattle.laws_drivers.specs.events.Faults.{ClientGoes, Did, Faults, ServerGoes}
use Rattle.laws_drivers.proofs.events.Along.{along_too}
use Rattle.laws_world.specs.Claims.{Beginning}

-- all that may come of the first may come of the second
pub record IsWithin (fewer more : Faults) : Type 0 where
  pub serves : (action : Action server_side) (at : Held Timed) → fewer.Serves action at → more.Serves action at
  pub asks : (action : Action client_side) (at : Held Client) → fewer.Asks action at → more.Asks action at
  pub ports : (turns : List Turn) (start now : Stand client_side) (led : Led (client_actions turns) start now)
      → Along (ClientGoes fewer) (client_actions turns) start now led → fewer.ArePorts turns → more.ArePorts turns
  pub ordered : (moments : ℕ → ℕ) (turns : List Turn) (between : Between) (happened : Happened turns between) (start now : Stand server_side)
      (led : Led (server_actions turns) start now) → fewer.AreOrdered moments turns between happened start now led
      → more.AreOrdered moments turns between happened start now led
  pub short : (actions : List (Action client_side)) (start now : Stand client_side) (led : Led actions start now) → fewer.AreShort actions start now led
      → more.AreShort actions start now led

pub did_within : (fewer more : Faults) → IsWithin fewer more → (b : Beginning) (moments : ℕ → ℕ) (turns : List Turn) (between : Between)
    (server : Stand server_side) (client : Stand client_side) → Did fewer b moments turns between server client → Did more b moments turns between server client
did_within fewer more within b moments turns between server client did = record {
  server_start = did.server_start;
  client_start = did.client_start;
  begins = did.begins;
  untold = did.untold;
  unwritten = did.unwritten;
  server_unwritten = did.server_unwritten;
  client_untold = did.client_untold;
  happened = did.happened;
  server_led = did.server_led;
  client_led = did.client_led;
  serves = along_too (ServerGoes fewer) (ServerGoes more) (λ action old new goes. (within.serves action old goes.0, goes.1)) (server_actions turns)
      did.server_start server did.server_led did.serves;
  asks = along_too (ClientGoes fewer) (ClientGoes more) (λ action old new goes. (within.asks action old goes.0, goes.1)) (client_actions turns)
      did.client_start client did.client_led did.asks;
  ports = within.ports turns did.client_start client did.client_led did.asks did.ports;
  told = did.told;
  ordered = within.ordered moments turns between did.happened did.server_start server did.server_led did.ordered;
  short = within.short (client_actions turns) did.client_start client did.client_led did.short;
}
