-- How many octets of a piece a call of the client takes in which no growth was refused.
use Rattle.std.specs.Prelude.{◌≡◌, ◌⊎◌, ℕ, false, List, length}
use Rattle.ftp_client_model.specs.Calls.{may_hear, may_receive}
use Rattle.ftp_client_model.specs.View.{View}

-- control octets: so many of them is all, or behind them no further one may be taken
abbrev pub IsMostOfReplies : ℕ → List ℕ → View → Type 0
IsMostOfReplies count octets v = (count ≡ length octets) ⊎ (may_hear v ≡ false)

-- data octets: the same
abbrev pub IsMostOfDownload : ℕ → List ℕ → View → Type 0
IsMostOfDownload count octets v = (count ≡ length octets) ⊎ (may_receive v ≡ false)
