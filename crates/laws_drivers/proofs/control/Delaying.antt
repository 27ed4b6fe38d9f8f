-- A client's calls in either order, computed (`Delays`).
use Rattle.std.proofs.Common.{refl}
use Rattle.ftp_client_model.specs.Calls.{control_end, data_end, data_fault, data_opened}
use Rattle.ftp_client_model.specs.Dialogue.{answered}
use Rattle.laws_drivers.specs.control.Delays.{DownBreaksCommute, UpBreaksCommute, EndForgetsBreak, EndForgetsLateBreak, OpeningCommutes, UnopenedIsBroken, UpRepliesCommute}

-- a 426, an octet and the break of a download
pub down_breaks_commute : DownBreaksCommute
unfolding answered data_end data_fault
down_breaks_commute path how d mark n texts = (refl, λ octet. refl)

-- a 426 and the break of an upload
pub up_breaks_commute : UpBreaksCommute
unfolding answered data_end data_fault
up_breaks_commute path octets how octet left mark n texts = refl

-- the break before the first reply, and the end of control
pub end_forgets_break : EndForgetsBreak
unfolding control_end data_fault
end_forgets_break op flow n = refl

-- a port that was never opened is one that broke
pub unopened_is_broken : UnopenedIsBroken
unfolding answered data_fault data_opened
unopened_is_broken path how d mark port n texts = refl

-- the break after the 1yz, and the end of control
pub end_forgets_late_break : EndForgetsLateBreak
unfolding control_end data_fault
end_forgets_late_break path octets how d octet left mark n = (refl, refl)

-- other final replies and the break of an upload
pub up_replies_commute : UpRepliesCommute
unfolding answered data_fault
up_replies_commute path octets how octet left mark n texts = (refl, refl, refl, refl)

-- the opening at the client's port, and a 226
pub opening_commutes : OpeningCommutes
unfolding answered data_opened
opening_commutes path how d mark port n texts = refl
