use Rattle.laws_server.proofs.one.LookLemmas.{calls_only_look, lookers_leave_the_map, starts_look}
use Rattle.laws_server.proofs.one.LookLosses.{far_leaves_the_map}
use Rattle.laws_server.proofs.one.roots.lookers_leave_the_map.Goals as goal

pub returns : goal.returns
returns c = record { start = starts_look; calls = calls_only_look; always = lookers_leave_the_map; far = far_leaves_the_map }
