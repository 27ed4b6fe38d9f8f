use Rattle.laws_server.proofs.several.ActionLemmas.{calls_are_actions, turns_are_actions}
use Rattle.laws_server.proofs.several.laws.calls_are_actions.Goals as goal

pub returns : goal.returns
returns c = record { calls = calls_are_actions; turns = turns_are_actions }
