use Rattle.laws_world.proofs.StillLemmas.{blocked_is_not_quiet, quiet_is_still, resting_is_still, still_is_quiet}
use Rattle.laws_world.proofs.laws.still_is_quiet.Goals as goal

pub returns : goal.returns
returns c = record { quiet = still_is_quiet; blocked = blocked_is_not_quiet; back = quiet_is_still; rests = resting_is_still }
