use Rattle.std.proofs.Common.{rules, ◌∙◌}
use Rattle.ftp_disk_scan.proofs.loading.ComparedLemmas.{none_agrees}
use Rattle.ftp_disk_scan.proofs.loading.changes.Changes.none.Goals as goal

pub invariant_of-result : goal.invariant_of-result
invariant_of-result c = record { told = none_agrees c.none.result.pairs c.none.ensures ∙ search rules }
