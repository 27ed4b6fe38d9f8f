-- The actions of drives that are over, of which data connections broke, put together.
use Rattle.laws_drivers.proofs.events.Answers.{InMidst}
use Rattle.laws_drivers.proofs.events.Concluding.{agree_as_over}
use Rattle.laws_breaks.specs.uploads.Claims.{upload_faults}
use Rattle.laws_breaks.specs.uploads.Over.{CutDrivesAgree}
use Rattle.laws_breaks.proofs.uploads.Concluding.{cuts_agree}

-- nothing was reported before a drive reported, and no other operation begun
in_midst : InMidst upload_faults.IsAnswer
in_midst op answer old new a midst = midst

-- what both did before the end agrees
pub cut_drives_agree : CutDrivesAgree
cut_drives_agree b fair moments timed asked server are =
    agree_as_over upload_faults in_midst cuts_agree b fair moments timed asked server are.over (are.client_led, are.gives, tt)
