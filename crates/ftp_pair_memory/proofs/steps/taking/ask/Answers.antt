use Rattle.std.proofs.Common.{rules}
use Rattle.laws_drivers.specs.control.Between.{Near}
use Rattle.ftp_pair_memory.specs.streams.MemoryEnds.{link_state_of, between_both, listens_of}
use Rattle.ftp_pair_memory.specs.steps.Seating.{ways_of}
use Rattle.ftp_pair_memory.proofs.steps.Ending.{asks_not, asks_refused}
use Rattle.ftp_pair_memory.proofs.steps.Gathering.{asks_from}
use Rattle.ftp_pair_memory.proofs.steps.taking.ask.Goals as goal

pub returns-clause-answered : goal.returns-clause-answered
returns-clause-answered g c =
    let server = c.args.server.now.memory_end in
    asks_from (λ m. between_both Near m server (ways_of c.args.control.now)) (λ m. listens_of (link_state_of m) (link_state_of server))
    (λ m. record { near = (link_state_of m).host; far = (link_state_of server).host }) c.args.op c.settle.result _ _ _ _ _ _ c.begin.ensures.same
    (c.begin.ensures.begun (search rules)) c.settle.ensures.settled

pub returns-clause-unanswered : goal.returns-clause-unanswered
returns-clause-unanswered g c =
    asks_not c.args.op c.settle.result _ _ _ _ c.begin.ensures.same (c.begin.ensures.begun (search rules)) c.settle.ensures.none

pub returns-then-not-begin-clause-unanswered : goal.returns-then-not-begin-clause-unanswered
returns-then-not-begin-clause-unanswered g c = asks_refused c.args.op _ _ _ c.begin.ensures.same (c.begin.ensures.busy (search rules))
