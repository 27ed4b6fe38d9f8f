-- Drives that are over, of which data connections broke, those of uploads too.
use Rattle.std.specs.Prelude.{ℕ, List}
use Rattle.ftp_ports.specs.Actions.{Led, Stand}
use Rattle.ftp_operation.specs.Answer.{Said}
use Rattle.ftp_operation.specs.declared.op.Op.{Op}
use Rattle.ftp_server_driver.specs.alone.Side.{server_side}
use Rattle.laws_world.specs.Claims.{Beginning, IsFair}
use Rattle.laws_drivers.specs.control.Between.{client_actions}
use Rattle.laws_drivers.specs.events.Moments.{AreMoments}
use Rattle.laws_drivers.specs.events.Over as drives
use Rattle.laws_drivers.specs.events.Over.{AgreeAsOver}
use Rattle.laws_breaks.specs.uploads.Actions.{GivesAlong}
use Rattle.laws_breaks.specs.uploads.Claims.{upload_faults}

-- the server's drive since the client left, and each drive of the client gave the answer of the operation that was begun before it; and all actions of the
-- client are such
pub record AreOver (b : Beginning) (moments : ℕ → ℕ) (asked : List (Op (List ℕ) × Said)) (server : Stand server_side) : Type 0 where
  pub over : drives.AreOver upload_faults b moments asked server
  pub client_led : Led (client_actions over.turns) over.client_start over.client
  pub gives : GivesAlong (client_actions over.turns) over.client_start over.client client_led

-- the answers that a client's drives gave, and the map that the server's drive left, agree with the operations, with marks of these actions: each is the direct
-- run's where its dial did not fail and its client was told of no break, nor, of an upload, its server
abbrev pub CutDrivesAgree : Type 0
CutDrivesAgree =
    (b : Beginning) → IsFair b → (moments : ℕ → ℕ) → AreMoments moments → (asked : List (Op (List ℕ) × Said)) (server : Stand server_side)
    → (are : AreOver b moments asked server) → AgreeAsOver upload_faults are.over are.client_led
