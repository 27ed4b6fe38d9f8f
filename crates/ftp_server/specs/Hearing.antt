-- What the reader of the control connection can stand behind.
use Rattle.std.specs.Prelude.{ℕ, List}
use Rattle.ftp_nvt.specs.Ear.{HasHeard}
use Rattle.ftp_nvt.specs.declared.ear.Ear.{Ear}

-- some row of octets
abbrev pub HasHeardSome : {A : Type 0} → Ear A → Type 0
HasHeardSome ear = (octets : List ℕ) × HasHeard ear octets
