-- How a world's server is ahead of a drive's: what a world does at once a drive does later (RFC 959, sections 3.2 and 4.1.2).
use Rattle.std.specs.Prelude.{◌≡◌, ℕ, Bool, true, false}
use Rattle.laws_world.specs.World.{next_listen, port_at}
use Rattle.ftp_server_model.specs.Calls.{close_step, connection_of, listening_step, opens}
use Rattle.ftp_server_model.specs.Machine.{completed}
use Rattle.ftp_server_model.specs.View.{Transfer, View as Far}
use Rattle.ftp_server_model.specs.declared.session.ServerLink.{ServerLink}
use Rattle.ftp_server_model.specs.declared.session.ServerLink.TheVariants as Data
use Rattle.ftp_server_model.specs.declared.session.Way.TheVariants as Ways

-- closes aside, which a world does at once: it is level; a client that has dialled is accepted there; or a port that is wanted is told there
pub data WorldAhead : Type 0 where
  Level Opens : WorldAhead
  Listens : (port : ℕ) → WorldAhead

-- it waits for who comes
abbrev pub accepts : ServerLink Transfer → Bool
accepts Data.Passive = true
accepts (Data.Opening transfer Ways.Accept) = true
accepts link = false

-- it wants a port
abbrev pub is_asked : ServerLink Transfer → Bool
is_asked (Data.Asked verb) = true
is_asked link = false

-- it has one that is open
abbrev pub is_open : ServerLink Transfer → Bool
is_open Data.Ready = true
is_open (Data.Transferring transfer) = true
is_open link = false

abbrev pub Fits : WorldAhead → ServerLink Transfer → Type 0
Fits Level link = is_asked link ≡ false
Fits Opens link = accepts link ≡ true
Fits (Listens port) link = is_asked link ≡ true

abbrev pub ahead_of : WorldAhead → Far → Far
ahead_of Level v = v
ahead_of Opens v = completed (opens (connection_of v.session) true v)
ahead_of (Listens port) v = listening_step port v

abbrev pub far_world_ahead : WorldAhead → Far → Far
far_world_ahead ahead v = close_step (ahead_of ahead (close_step v))

-- how many ports were told there, where so many were told here, and which
abbrev pub ListenedAhead : WorldAhead → (here there : ℕ) → Type 0
ListenedAhead (Listens port) here there = (there ≡ next_listen here) × (port ≡ port_at here)
ListenedAhead ahead here there = there ≡ here
