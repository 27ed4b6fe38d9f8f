-- Drives that are over, of which downloads of the client's broke.
use Rattle.std.specs.Prelude.{ℕ, List}
use Rattle.ftp_ports.specs.Actions.{Led, Stand}
use Rattle.ftp_operation.specs.Answer.{Said}
use Rattle.ftp_operation.specs.declared.op.Op.{Op}
use Rattle.ftp_server_driver.specs.alone.Side.{server_side}
use Rattle.laws_world.specs.Claims.{Beginning, IsFair}
use Rattle.laws_drivers.specs.control.Between.{client_actions}
use Rattle.laws_drivers.specs.events.Moments.{AreMoments}
use Rattle.laws_drivers.specs.events.Over as drives
use Rattle.laws_drivers.specs.events.Over.{AgreeAsOver}
use Rattle.laws_breaks.specs.downloads.Claims.{download_faults}

-- the server's drive since the client left, and each drive of the client gave the answer of the operation that was begun before it
abbrev pub AreOver : (b : Beginning) (moments : ℕ → ℕ) (asked : List (Op (List ℕ) × Said)) (server : Stand server_side) → Type 0
AreOver b moments asked server = drives.AreOver download_faults b moments asked server

-- the answers that a client's drives gave, and the map that the server's drive left, agree with the operations, with marks of these actions: each is the direct
-- run's where its dial did not fail and it was told of no break
abbrev pub OverDrivesAgree : Type 0
OverDrivesAgree =
    (b : Beginning) → IsFair b → (moments : ℕ → ℕ) → AreMoments moments → (asked : List (Op (List ℕ) × Said)) (server : Stand server_side)
    → (over : AreOver b moments asked server) → (led : Led (client_actions over.turns) over.client_start over.client) × AgreeAsOver download_faults over led
