use Rattle.std.proofs.Common.{refl}
use Rattle.tool_serve.proofs.session_in_slot.some_turns.Goals as goal

pub returns : goal.returns
returns g c =
    record { turn = _; takes = c.lent_turns.ensures.turn; lends = refl; leaves = refl; was_told = refl; tells = refl; ends = refl }
