use Rattle.tool_scheduler.proofs.FairLemmas.{fair_from_start, nobody_is_passed_twice, places_stay}
use Rattle.tool_scheduler.proofs.laws.turns_are_fair.Goals as goal

pub returns : goal.returns
returns c = record { passed = nobody_is_passed_twice; stay = places_stay; start = fair_from_start }
