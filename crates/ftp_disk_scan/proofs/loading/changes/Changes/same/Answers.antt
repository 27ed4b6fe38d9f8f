use Rattle.std.proofs.Common.{ap, ◌∙◌}
use Rattle.ftp_disk_scan.specs.loading.Difference.{is_same}
use Rattle.ftp_disk_scan.proofs.loading.ComparedLemmas.{agree_more}
use Rattle.ftp_disk_scan.proofs.loading.changes.Changes.same.Goals as goal

pub invariant_of-self : goal.invariant_of-self
invariant_of-self c = record {
  told = agree_more c.args.self.now.compared.pairs c.note.new.self.pairs c.args.found c.args.entry c.note.ensures (ap is_same c.requires)
      ∙ c.args.self.now.told;
}
