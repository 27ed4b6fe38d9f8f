use Rattle.std.proofs.Common.{[], ap, ◌∙◌}
use Rattle.rows_ends.specs.History.{asked_in}
use Rattle.rows_ends.proofs.HistoryLemmas.{asked_last}
use Rattle.rows_ends.proofs.history.History.note_of.Goals as goal

pub returns : goal.returns
returns c = ap asked_in c.and-log.ensures ∙ asked_last [] c.args.self.now.log.items (c.args.action, c.args.written.now)
