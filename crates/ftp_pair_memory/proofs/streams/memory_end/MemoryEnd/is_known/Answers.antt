use Rattle.std.proofs.Common.{refl, sym, ◌∙◌}
use Rattle.ftp_pair_memory.proofs.streams.Lifting.{known_out, known_there, not_so}
use Rattle.ftp_pair_memory.proofs.streams.Straying.{another_one, gone_astray, never_gone, so_not}
use Rattle.ftp_pair_memory.proofs.streams.memory_end.MemoryEnd.is_known.Goals as goal

pub returns-in-Ok-exchange-clause-known : goal.returns-in-Ok-exchange-clause-known
returns-in-Ok-exchange-clause-known c so = known_out _ _ _ c.exchange.new.self _ _ c.in-Ok.ensures.ok c.in-Ok-exchange.ensures.ok (sym c.is_its_own-is_its_own.ensures ∙ so) c.if-self.false refl

pub returns-in-Err-clause-known : goal.returns-in-Err-clause-known
returns-in-Err-clause-known c so = known_there _ _ c.in-Err.ensures.err.1 c.in-Err.ensures.err.2 (sym c.is_out.ensures ∙ not_so _ so) c.if-self.false refl

pub returns-in-Ok-exchange-clause-unknown : goal.returns-in-Ok-exchange-clause-unknown
returns-in-Ok-exchange-clause-unknown c not = another_one _ _ _ c.exchange.new.self c.args.self.now _ c.in-Ok.ensures.ok c.in-Ok-exchange.ensures.ok (sym c.is_its_own-is_its_own.ensures ∙ not) refl

pub returns-in-Err-exchange-clause-unknown : goal.returns-in-Err-exchange-clause-unknown
returns-in-Err-exchange-clause-unknown c not = absurd (never_gone _ _ c.args.self.now.stream c.exchange.new.self c.in-Ok.ensures.ok c.in-Err-exchange.ensures.err.1)

pub returns-in-Err-clause-unknown : goal.returns-in-Err-clause-unknown
returns-in-Err-clause-unknown c not = gone_astray c.args.self.now _ c.in-Err.ensures.err.1 c.in-Err.ensures.err.2 (sym c.is_out.ensures ∙ so_not _ not) refl
