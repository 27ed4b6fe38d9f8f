use Rattle.laws_settling.proofs.EventsFall.{events_fall}
use Rattle.laws_settling.proofs.laws.events_fall.Goals as goal

pub returns : goal.returns
returns c = events_fall
