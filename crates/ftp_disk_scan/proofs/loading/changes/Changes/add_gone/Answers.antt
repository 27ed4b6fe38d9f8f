use Rattle.ftp_disk_scan.proofs.loading.ComparedLemmas.{away_differs, differ_more, gone_told}
use Rattle.ftp_disk_scan.proofs.loading.changes.Changes.add_gone.Goals as goal

pub invariant_of-self-2 : goal.invariant_of-self-2
invariant_of-self-2 c =
    let differs = away_differs c.args.found c.args.entry c.requires in
    let more = differ_more c.args.self.now.compared.pairs c.note.new.self.pairs c.args.found c.args.entry c.note.ensures differs in
    record { told = gone_told c.args.self.now.gone.items c.push.new.self.items _ c.note.new.self.pairs _ _ c.in_ok-push.ensures.items more }
