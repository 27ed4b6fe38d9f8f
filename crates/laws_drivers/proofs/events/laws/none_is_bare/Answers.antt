use Rattle.std.proofs.Common.{refl}
use Rattle.laws_drivers.proofs.events.laws.none_is_bare.Goals as goal

pub returns : goal.returns
returns c = λ asked. (refl, refl)
