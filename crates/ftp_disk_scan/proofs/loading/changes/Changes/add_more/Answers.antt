use Rattle.std.proofs.Common.{length, refl}
use Rattle.ftp_disk_scan.proofs.loading.ComparedLemmas.{differ_more, known_differs, more_told}
use Rattle.ftp_disk_scan.proofs.loading.changes.Changes.add_more.Goals as goal

pub invariant_of-self-2 : goal.invariant_of-self-2
invariant_of-self-2 c =
    let differs = known_differs c.args.found c.args.entry _ c.requires refl in
    let more = differ_more c.args.self.now.compared.pairs c.note.new.self.pairs c.args.found c.args.entry c.note.ensures differs in
    record {
      told = more_told c.args.self.now.more.items c.push.new.self.items _ c.note.new.self.pairs (length c.args.self.now.gone.items)
          (length c.args.self.now.not_longer.items) c.in_ok-push.ensures.items more;
    }
