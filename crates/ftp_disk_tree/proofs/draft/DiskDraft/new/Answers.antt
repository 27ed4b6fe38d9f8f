use Rattle.std.proofs.Common.{length, sym, ap}
use Rattle.ftp_disk_tree.proofs.StrayLemmas.{took_none}
use Rattle.ftp_disk_tree.proofs.draft.DiskDraft.new.Goals as goal

pub invariant_of-result : goal.invariant_of-result
invariant_of-result g c = record { counted = sym (ap length (took_none c.new.result.events c.new.ensures)) }

pub returns-clause-none : goal.returns-clause-none
returns-clause-none g c = took_none c.new.result.events c.new.ensures
