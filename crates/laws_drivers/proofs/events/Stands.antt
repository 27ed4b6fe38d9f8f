-- How both ends stand while data goes.
use Rattle.std.proofs.Common.{◌≡◌, Bool, true, false, true≢false, None, refl}
use Rattle.ftp_ports.specs.Machine.{Held}
use Rattle.ftp_client_model.specs.Calls.{is_sound}
use Rattle.ftp_client_model.specs.Failing.{Client}
use Rattle.ftp_client_model.specs.declared.client.ClientLink.{ClientLink}
use Rattle.ftp_client_model.specs.declared.client.ClientLink.TheVariants as Data
use Rattle.ftp_server_driver.specs.alone.Side.{Timed}
use Rattle.ftp_server_model.specs.declared.session.Life.TheVariants as Lives

-- a server that runs, and at which no line waits
pub record ServerServes (at : Held Timed) : Type 0 where
  pub running : at.end.server.view.session.life ≡ Lives.Running
  pub none_waits : at.end.server.view.waiting ≡ None

-- a client that has a port of its own, or wants one
abbrev pub has_port : ClientLink → Bool
has_port Data.ListenWanted = true
has_port (Data.Listening port) = true
has_port (Data.Accepting port) = true
has_port link = false

-- one that wants a port of its own, and was not told any
abbrev pub wants_port : ClientLink → Bool
wants_port Data.ListenWanted = true
wants_port link = false

pub portless : (link : ClientLink) → has_port link ≡ false → wants_port link ≡ false
portless Data.ListenWanted e = absurd (true≢false e)
portless Data.Free e = refl
portless (Data.Listening port) e = refl
portless (Data.Connecting endpoint) e = refl
portless (Data.Accepting port) e = refl
portless Data.Open e = refl
portless (Data.Over ending) e = refl

-- it has not failed, and wants no port of its own
pub record ClientFetches (at : Held Client) : Type 0 where
  pub sound : is_sound at.end.view.standing ≡ true
  pub dials : wants_port at.end.view.connection ≡ false
