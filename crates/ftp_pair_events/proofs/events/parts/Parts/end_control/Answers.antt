use Rattle.std.proofs.Common.{ap, arith}
use Rattle.ftp_pair_events.proofs.events.Keeping.{held, after}
use Rattle.ftp_pair_events.proofs.events.parts.Parts.end_control.Goals as goal

pub returns-clause-counted : goal.returns-clause-counted
returns-clause-counted g c =
    after c.part.ensures.counted (held 0 c.control_end.ensures.now.1 (ap (λ s. s.counts) c.control_end-2.ensures.acts)) (omega arith)
