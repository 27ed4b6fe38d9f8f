use Rattle.std.proofs.Common.{refl, ◌∙◌}
use Rattle.ftp_pair_memory.proofs.streams.Lifting.{lowers_out, lowers_there}
use Rattle.ftp_pair_memory.proofs.streams.memory_end.MemoryEnd.lower.Goals as goal

pub returns-in-Ok : goal.returns-in-Ok
returns-in-Ok c = lowers_out _ _ _ _ c.in-Ok.ensures.ok refl

pub returns-in-Err : goal.returns-in-Err
returns-in-Err c =
    lowers_there _ _ _ c.in-Err.ensures.err.1 c.in-Err.ensures.err.2 (c.swap-none.ensures.wire ∙ c.in-Err.ensures.err.0) c.swap-none.ensures.stay
    c.swap-none.ensures.calls c.swap-none.ensures.dialled c.swap-none.ensures.listens c.swap-none.ensures.host
