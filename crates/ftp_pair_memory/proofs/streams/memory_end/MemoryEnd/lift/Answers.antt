use Rattle.std.proofs.Common.{refl, sym, ◌∙◌}
use Rattle.ftp_pair_memory.proofs.streams.Lifting.{lifts_out, lifts_there}
use Rattle.ftp_pair_memory.proofs.streams.Straying.{astray_out, astray_there}
use Rattle.ftp_pair_memory.proofs.streams.memory_end.MemoryEnd.lift.Goals as goal

pub returns-then-is_out-clause-some : goal.returns-then-is_out-clause-some
returns-then-is_out-clause-some c = lifts_out _ _ _ _ c.in-Ok.ensures.ok (sym c.is_out.ensures ∙ c.if-is_out.true) refl

pub returns-else-is_out-2-clause-some : goal.returns-else-is_out-2-clause-some
returns-else-is_out-2-clause-some c =
    lifts_there _ _ _ c.in-Err.ensures.err.1 c.in-Err.ensures.err.2 (sym c.is_out-in-Err.ensures ∙ c.if-is_out-2.false) c.swap.ensures.before c.swap.ensures.stay c.swap.ensures.calls c.swap.ensures.dialled c.swap.ensures.listens c.swap.ensures.host

pub returns-else-is_out-clause-none : goal.returns-else-is_out-clause-none
returns-else-is_out-clause-none c = astray_out _ _ c.args.self.now c.exchange.new.self c.in-Ok.ensures.ok (sym c.is_out.ensures ∙ c.if-is_out.false)

pub returns-then-is_out-2-clause-none : goal.returns-then-is_out-2-clause-none
returns-then-is_out-2-clause-none c = astray_there c.args.self.now c.in-Err.ensures.err.1 (sym c.is_out-in-Err.ensures ∙ c.if-is_out-2.true)
