-- How a world's server is ahead of a drive's while files are put and fetched: as while they are fetched alone; or it was told that the client closed a data
-- connection that it dialled, and over which nothing was asked for, since REST was refused (RFC 3659, section 5). A drive's has that connection still, or is
-- still to accept it, until it is asked for another port; no drive is told of such an end.
use Rattle.std.specs.Prelude.{◌≡◌, ℕ, Bool, true, false}
use Rattle.ftp_server_model.specs.Calls.{close_step}
use Rattle.ftp_server_model.specs.View.{Transfer, View as Far}
use Rattle.ftp_server_model.specs.declared.session.ServerLink.{ServerLink}
use Rattle.ftp_server_model.specs.declared.session.ServerLink.TheVariants as Data
use Rattle.laws_drivers.specs.world.Ahead as plainly

-- the first three as where files are fetched alone; and it was told of such an end, where the drive's accepted that connection or did not yet
pub data Ahead : Type 0 where
  Level Opens : Ahead
  Listens : (port : ℕ) → Ahead
  Parted : (accepted : Bool) → Ahead

-- it was told of such an end
abbrev pub is_parted_ahead : Ahead → Bool
is_parted_ahead (Parted accepted) = true
is_parted_ahead ahead = false

-- it was accepted, or is still to be, and nothing was asked for over it
abbrev pub is_left : Bool → ServerLink Transfer → Bool
is_left true Data.Ready = true
is_left false Data.Passive = true
is_left accepted link = false

abbrev pub Fits : Ahead → ServerLink Transfer → Type 0
Fits Level link = plainly.Fits plainly.Level link
Fits Opens link = plainly.Fits plainly.Opens link
Fits (Listens port) link = plainly.Fits (plainly.Listens port) link
Fits (Parted accepted) link = is_left accepted link ≡ true

-- without its data connection
abbrev pub without_connection : Far → Far
without_connection v = record v { session = record v.session { connection = Data.Free } }

abbrev pub ahead_of : Ahead → Far → Far
ahead_of Level v = v
ahead_of Opens v = plainly.ahead_of plainly.Opens v
ahead_of (Listens port) v = plainly.ahead_of (plainly.Listens port) v
ahead_of (Parted accepted) v = without_connection v

abbrev pub far_ahead : Ahead → Far → Far
far_ahead ahead v = close_step (ahead_of ahead (close_step v))

-- how many ports were told there, where so many were told here, and which
abbrev pub Listened : Ahead → (here there : ℕ) → Type 0
Listened (Listens port) here there = plainly.ListenedAhead (plainly.Listens port) here there
Listened ahead here there = there ≡ here
