use Rattle.std.proofs.Common.{inl}
use Rattle.ftp_pair_memory.proofs.steps.Ending.{round_goes}
use Rattle.ftp_pair_memory.proofs.steps.Gathering.{rounds_then}
use Rattle.ftp_pair_memory.proofs.steps.taking.round.Goals as goal

pub returns-in-On-clause-took : goal.returns-in-On-clause-took
returns-in-On-clause-took g c = rounds_then c.client_turn.result _ _ _ c.client_turn.ensures.took (rw c.in-On.is at c.server_turn.ensures.took)

pub returns-in-On-clause-turned : goal.returns-in-On-clause-turned
returns-in-On-clause-turned g c = round_goes c.client_turn.result _ _ _ (rw c.in-On.is at c.server_turn.ensures.turned) c.client_turn.ensures.turned

pub returns-in-Over-clause-turned : goal.returns-in-Over-clause-turned
returns-in-Over-clause-turned g c = inl (rw c.in-Over.is at c.server_turn.ensures.turned)

pub returns-in-Off-clause-turned : goal.returns-in-Off-clause-turned
returns-in-Off-clause-turned g c = inl (rw c.in-Off.is at c.server_turn.ensures.turned)
