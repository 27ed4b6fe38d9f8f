-- The claims, by agreement of a world's sessions.
use Rattle.laws_agreement.proofs.Theorems.{agrees-always}
use Rattle.ftp_server_model.proofs.LinesDecided.{reading_exists}
use Rattle.laws_drivers.specs.control.Broken.{DrivesBrokenAgree}
use Rattle.laws_drivers.specs.control.Claims.{DrivesAgree, DrivesAreTheDirectRun, PartingAgrees}
use Rattle.laws_drivers.specs.control.Over.{DrivesLostAgree, DrivesOverAreTheDirectRun}
use Rattle.laws_drivers.specs.control.Quitting.{DrivesThatQuitAreTheDirectRun}
use Rattle.laws_drivers.proofs.control.BothBroken.{drives_broken_agree_by}
use Rattle.laws_drivers.proofs.control.Concluding.{drives_agree_by, drives_are_the_direct_run_by, parting_agrees_by}
use Rattle.laws_drivers.proofs.control.Ending.{drives_over_are_the_direct_run_by}
use Rattle.laws_drivers.proofs.control.Leaving.{drives_that_quit_are_the_direct_run_by}
use Rattle.laws_drivers.proofs.control.Losing.{drives_lost_agree_by}

-- reports and map agree with what was begun
pub drives_agree : DrivesAgree
drives_agree = drives_agree_by agrees-always reading_exists

-- so they do where the control connection ends
pub parting_agrees : PartingAgrees
parting_agrees = parting_agrees_by agrees-always reading_exists

-- where each operation has its report, they are those of the direct run
pub drives_are_the_direct_run : DrivesAreTheDirectRun
drives_are_the_direct_run = drives_are_the_direct_run_by agrees-always reading_exists

-- so it is of drives that are over
pub drives_over_are_the_direct_run : DrivesOverAreTheDirectRun
drives_over_are_the_direct_run = drives_over_are_the_direct_run_by agrees-always reading_exists

-- and of those that end by QUIT
pub drives_that_quit_are_the_direct_run : DrivesThatQuitAreTheDirectRun
drives_that_quit_are_the_direct_run = drives_that_quit_are_the_direct_run_by agrees-always reading_exists

-- and those that were lost agree
pub drives_lost_agree : DrivesLostAgree
drives_lost_agree = drives_lost_agree_by agrees-always reading_exists

-- so do those that broke off
pub drives_broken_agree : DrivesBrokenAgree
drives_broken_agree = drives_broken_agree_by agrees-always reading_exists
