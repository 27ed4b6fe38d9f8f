use Rattle.std.proofs.Common.{◌≡◌, length, ap, arith}
use Rattle.std.proofs.lemmas.List.{length-append}
use Rattle.ftp_disk_tree.specs.Note.{taken}
use Rattle.ftp_disk_tree.proofs.StrayLemmas.{took_more}
use Rattle.ftp_disk_tree.proofs.draft.DiskDraftDraft.push.Goals as goal

pub invariant_of-self-2 : goal.invariant_of-self-2
invariant_of-self-2 g c =
    let more = took_more c.args.self.now.written.events c.note.new.self.events c.args.more.now c.note.ensures in
    let before : c.args.self.now.len ≡ length (taken c.args.self.now.written.events) = c.args.self.now.counted in
    let added = c.in-Some.ensures in
    record { counted = omega (arith, added.1, before, ap length more, length-append (taken c.args.self.now.written.events) c.args.more.now) }

pub returns-clause-ok : goal.returns-clause-ok
returns-clause-ok g c = took_more c.args.self.now.written.events c.note.new.self.events c.args.more.now c.note.ensures
