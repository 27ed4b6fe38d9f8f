use Rattle.tool_scheduler.proofs.WaitLemmas.{each_address_has_a_turn, nobody_has_two_turns, nobody_waits_for_long}
use Rattle.tool_scheduler.proofs.laws.rounds_are_fair.Goals as goal

pub returns : goal.returns
returns c = record { address = each_address_has_a_turn; once = nobody_has_two_turns; soon = nobody_waits_for_long }
