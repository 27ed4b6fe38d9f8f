use Rattle.std.proofs.Common.{sym, ◌∙◌}
use Rattle.ftp_pair_events.specs.events.Shown.{shown}
use Rattle.ftp_pair_events.proofs.events.Resting.{quiet_not, quiet_so}
use Rattle.ftp_pair_events.proofs.events.parts.Parts.is_quiet.Goals as goal

pub returns-clause-quiet : goal.returns-clause-quiet
returns-clause-quiet g c is = quiet_so (shown g.N.Near.client g.F.Far.server c.args.self.now) (sym c.passes.ensures ∙ is)

pub returns-clause-not : goal.returns-clause-not
returns-clause-not g c quiet = c.passes.ensures ∙ quiet_not (shown g.N.Near.client g.F.Far.server c.args.self.now) quiet
