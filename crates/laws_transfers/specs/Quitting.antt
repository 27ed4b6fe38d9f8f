-- Drives of which the client's put and fetched whole files, and whose program writes QUIT after the last one, by no action of the client (RFC 959, section
-- 4.1.1).
use Rattle.std.specs.Prelude.{ℕ, List}
use Rattle.ftp_ports.specs.Actions.{Stand}
use Rattle.ftp_operation.specs.Answer.{Said}
use Rattle.ftp_operation.specs.declared.op.Op.{Op}
use Rattle.ftp_server_driver.specs.alone.Side.{server_side}
use Rattle.laws_drivers.specs.events.Quitting as drives
use Rattle.laws_drivers.specs.events.Quitting.{QuitAreTheDirectRun}
use Rattle.laws_transfers.specs.Claims.{no_faults}
use Rattle.laws_world.specs.Claims.{Beginning}

-- after all actions of the client, which is logged in, QUIT was written, and the server's last actions came after that: then its drive was over
abbrev pub QuitAfterAll : (b : Beginning) (moments : ℕ → ℕ) (asked : List (Op (List ℕ) × Said)) (server : Stand server_side) → Type 0
QuitAfterAll b moments asked server = drives.HaveQuit no_faults b moments asked server

-- the answers that a client's drives gave, and the map that the server's drive left, are those of the operations run directly
abbrev pub TransfersThatQuitAreTheDirectRun : Type 0
TransfersThatQuitAreTheDirectRun = QuitAreTheDirectRun no_faults
