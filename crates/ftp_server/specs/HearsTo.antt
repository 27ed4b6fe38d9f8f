-- Control octets, however lines are read: there is one reading of them.
use Rattle.std.specs.Prelude.{◌≡◌, ℕ, List, Option, None}
use Rattle.ftp_server_model.specs.Failing.{AreHeard}
use Rattle.ftp_server_model.specs.Heard.{Heard, heard_by}
use Rattle.ftp_server_model.specs.Machine.{IsReading, MayHear, Reading, hears}
use Rattle.ftp_server_model.specs.View.{View}

-- they are heard as ever, each when it may be
abbrev pub HearsTo : List ℕ → View → View → Type 0
HearsTo octets v w = (read : Reading) → IsReading read → (w ≡ hears read v octets) × MayHear read v octets

-- they are heard, and some of what they asked may have failed
abbrev pub AreHeardTo : List ℕ → View → View → Type 0
AreHeardTo octets v w = (read : Reading) → IsReading read → AreHeard read v octets w

-- this is the line that the last of them acts on
abbrev pub TellsTo : List ℕ → View → Option Heard → Type 0
TellsTo octets v heard = (read : Reading) → IsReading read → heard ≡ heard_by read None v octets
