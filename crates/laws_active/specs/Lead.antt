-- How a world's client is ahead of a drive's: what a world does at once a drive does later (RFC 959, sections 3.2 and 4.1.2).
use Rattle.std.specs.Prelude.{ℕ, true, List}
use Rattle.ftp_client_model.specs.Calls.{accepted, data_closed, hears, listening}
use Rattle.ftp_client_model.specs.View.{View as Near}

-- it is even; a port that it wants is told there; or it heard these octets there, the first of those that come next, and who came was accepted after them
pub data Lead : Type 0 where
  Even : Lead
  Told : (port : ℕ) → Lead
  Joined : (octets : List ℕ) → Lead

abbrev pub led_by : Lead → Near → Near
led_by Even v = v
led_by (Told port) v = listening port (data_closed v)
led_by (Joined octets) v = accepted true (hears (data_closed v) octets)
