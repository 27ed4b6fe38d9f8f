-- A server stays small with each call of the trait `Far` in which its tree's device doesn't stray, where memory is refused and where the device
-- fails too. So whoever keeps the clauses of `Far` holds no more than it may at the exit of each such call.
use Rattle.std.specs.Prelude.{◌≡◌, ℕ, ◌<◌, List}
use Rattle.ftp_endpoint.specs.declared.host.Host.{Host}
use Rattle.ftp_server_model.specs.Calls.{break_step, clock_step, close_step, control_end, control_step, end_step, given_step, listening_step, no_port_step, opened_step, refused_step}
use Rattle.ftp_server_model.specs.Failing.{EndFails, GiveFails, KeepsCourse}
use Rattle.ftp_server_model.specs.Far.{Acts, Hears, Receives, Server, Steps}
use Rattle.laws_server.specs.one.Small.{IsSmall}

-- after each call, as its clause says it
pub record FarIsSmall (old new : Server) : Type 0 where
  pub clock : (moment : ℕ) → Acts (clock_step moment) old new → IsSmall new.view
  pub hear : (octets : List ℕ) → Hears octets old new → IsSmall new.view
  pub control_out : (count : ℕ) → Acts (control_step count) old new → IsSmall new.view
  pub control_ended : new ≡ record old { view = control_end old.view } → IsSmall new.view
  pub listens : (port : ℕ) → port < 65536 → Acts (listening_step port) old new → IsSmall new.view
  pub no_port : Acts no_port_step old new → IsSmall new.view
  pub opened : (host : Host) → Acts (opened_step host) old new → IsSmall new.view
  pub refused : Acts refused_step old new → IsSmall new.view
  pub received : (octets : List ℕ) → Receives octets old new → IsSmall new.view
  pub ended : Steps EndFails end_step old new → IsSmall new.view
  pub broke : Steps EndFails break_step old new → IsSmall new.view
  pub gave : (count : ℕ) → Steps (GiveFails count) (given_step count) old new → IsSmall new.view
  pub closed : Acts close_step old new → IsSmall new.view

-- whatever fails, where the device doesn't stray
abbrev pub FarStaysSmall : Type 0
FarStaysSmall = (old new : Server) → KeepsCourse old.counts new.counts → IsSmall old.view → FarIsSmall old new
