use Rattle.std.proofs.Common.{sym, ◌∙◌}
use Rattle.ftp_pair_events.specs.events.Shown.{shown}
use Rattle.ftp_pair_events.proofs.events.Resting.{still_so}
use Rattle.ftp_pair_events.proofs.events.parts.Parts.next_turn.Goals as goal

pub returns-in_default-next_end-clause-none : goal.returns-in_default-next_end-clause-none
returns-in_default-next_end-clause-none g c =
    still_so (shown g.N.Near.client g.F.Far.server c.args.self.now) c.in_default.ensures.none (sym c.is_asked_for.ensures ∙ c.if-is_asked_for.false) c.in_default-next_end.ensures.none
