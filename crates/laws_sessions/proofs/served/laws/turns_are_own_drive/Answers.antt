use Rattle.laws_sessions.proofs.served.Joining.{turns_are_own_drive}
use Rattle.laws_sessions.proofs.served.Slots.{each_is_left_alone}
use Rattle.laws_sessions.proofs.served.laws.turns_are_own_drive.Goals as goal

pub returns : goal.returns
returns c = record { turns = turns_are_own_drive; each = each_is_left_alone }
