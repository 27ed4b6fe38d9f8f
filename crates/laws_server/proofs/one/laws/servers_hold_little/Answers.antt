use Rattle.laws_server.proofs.one.Theorems.{calls_stay_small, holds_little, small_holds_little, start_is_small}
use Rattle.laws_server.proofs.one.laws.servers_hold_little.Goals as goal

pub returns : goal.returns
returns c = record { start = start_is_small; calls = calls_stay_small; held = small_holds_little; always = holds_little }
