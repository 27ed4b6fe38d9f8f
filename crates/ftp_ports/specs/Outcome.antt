-- How a read of a data connection came out, and a reset of it.
use Rattle.std.specs.Prelude.{◌≡◌, ◌⊎◌, ℕ, Bool, true, false, List, [], take, Option}
use Rattle.std.specs.declared.result.Result.{Result}
use Rattle.std.specs.declared.result.Result.TheVariants.{Ok, Err}
use Rattle.ftp_ports.specs.Asking.{Asked, Reset, Shut}
use Rattle.ftp_ports.specs.Channel.{IsLeft, AreOctetsWritten, Channel, with_fate}
use Rattle.ftp_ports.specs.declared.data.Halt.{Halt}
use Rattle.ftp_ports.specs.declared.whole.Fate.TheVariants.{Sound}

-- the octets that were read and are in hand
abbrev pub in_hand : Result ℕ Halt → (room : List ℕ) → List ℕ
in_hand (Ok count) room = take count room
in_hand (Err halt) room = []

-- a data connection that stands is reset, and where none stands the port alone is closed
abbrev pub IsDropped : (stands : Bool) → (left written : Option (List ℕ)) → Asked → Type 0
IsDropped true left written asked = asked ≡ Reset left written
IsDropped false left written asked = asked ≡ Shut

-- it is left so, whether octets are on their way or not
pub record IsReset (asked : Asked) (old new : Channel) : Type 0 where
  pub dropped : IsDropped old.stands old.left old.written asked
  pub left : IsLeft asked old new

-- octets were written, whether that failed behind them or not
abbrev pub IsWrote : (old new : Channel) → Type 0
IsWrote old new = (octets : List ℕ) × AreOctetsWritten octets old (with_fate Sound new)

-- or none were to be written
abbrev pub IsSent : (old new : Channel) → Type 0
IsSent old new = (new ≡ old) ⊎ IsWrote old new
