use Rattle.laws_server.proofs.one.CopyLemmas.{calls_stay_apart, copies_look_alike, starts_are_copies}
use Rattle.laws_server.proofs.one.roots.calls_stay_apart.Goals as goal

pub returns : goal.returns
returns c = record { start = starts_are_copies; calls = calls_stay_apart; alike = copies_look_alike }
