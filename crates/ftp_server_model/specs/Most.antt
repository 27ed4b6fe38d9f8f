-- How many octets of a piece a call of the server takes in which nothing failed.
use Rattle.std.specs.Prelude.{◌≡◌, ◌⊎◌, ℕ, false, List, length}
use Rattle.ftp_server_model.specs.Calls.{may_receive}
use Rattle.ftp_server_model.specs.Machine.{may_hear}
use Rattle.ftp_server_model.specs.View.{View}

-- control octets: so many of them is all, or behind them no further one may be taken
abbrev pub IsMostHeard : ℕ → List ℕ → View → Type 0
IsMostHeard count octets v = (count ≡ length octets) ⊎ (may_hear v ≡ false)

-- data octets: the same
abbrev pub IsMostReceived : ℕ → List ℕ → View → Type 0
IsMostReceived count octets v = (count ≡ length octets) ⊎ (may_receive v ≡ false)
