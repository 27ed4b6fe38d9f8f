use Rattle.std.proofs.Common.{refl}
use Rattle.tool_terminal.specs.escaped.Shown.{shown_from}
use Rattle.tool_terminal.proofs.escaped.rows.characters.Goals as goal

pub returns : goal.returns
unfolding shown_from
returns c = (refl, refl, refl, refl, refl, refl, refl, refl, refl, refl, refl, refl, refl, refl, refl, refl, refl)
