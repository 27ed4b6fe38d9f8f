-- Drives that are over, of which the client's put and fetched files over data connections that either dialled.
use Rattle.std.specs.Prelude.{ℕ, List}
use Rattle.ftp_ports.specs.Actions.{Stand}
use Rattle.ftp_operation.specs.Answer.{Said}
use Rattle.ftp_operation.specs.declared.op.Op.{Op}
use Rattle.ftp_server_driver.specs.alone.Side.{server_side}
use Rattle.laws_drivers.specs.events.Over as drives
use Rattle.laws_drivers.specs.events.Over.{OverAreTheDirectRun}
use Rattle.laws_active.specs.Claims.{no_faults_either_way}
use Rattle.laws_world.specs.Claims.{Beginning}

-- the server's drive since the client left, and each drive of the client gave the answer of the operation that was begun before it
abbrev pub AreOver : (b : Beginning) (moments : ℕ → ℕ) (asked : List (Op (List ℕ) × Said)) (server : Stand server_side) → Type 0
AreOver b moments asked server = drives.AreOver no_faults_either_way b moments asked server

-- the answers that a client's drives gave, and the map that the server's drive left, are those of the operations run directly
abbrev pub EitherOverAreTheDirectRun : Type 0
EitherOverAreTheDirectRun = OverAreTheDirectRun no_faults_either_way
