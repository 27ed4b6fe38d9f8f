use Rattle.laws_drivers.proofs.control.Moving.{moving_actions_change_places}
use Rattle.laws_drivers.proofs.control.Swapping.{actions_change_places}
use Rattle.laws_drivers.proofs.control.laws.actions_change_places.Goals as goal

pub returns : goal.returns
returns c = record { control = actions_change_places; moving = moving_actions_change_places }
