use Rattle.ftp_pair_memory.proofs.streams.Lifting.{fresh}
use Rattle.ftp_pair_memory.proofs.streams.memory_end.MemoryEnd.new.Goals as goal

pub returns-clause-fresh : goal.returns-clause-fresh
returns-clause-fresh c =
    fresh c.args.peer _ c.new-2.ensures c.new.ensures.stay c.new.ensures.came c.new.ensures.went c.new.ensures.closed c.new.ensures.calls
    c.new.ensures.undialled c.new.ensures.listens c.new.ensures.host
