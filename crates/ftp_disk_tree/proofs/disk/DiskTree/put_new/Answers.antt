use Rattle.std.proofs.Common.{length, sym, ap, ◌∙◌}
use Rattle.ftp_tree.specs.Tree.{removed, under, with_part}
use Rattle.ftp_tree_nodes.proofs.PlacingLemmas.{had, install-above}
use Rattle.ftp_disk_tree.specs.Note.{taken}
use Rattle.ftp_disk_tree.proofs.PutLemmas.{on-ok, put-over}
use Rattle.ftp_disk_tree.proofs.disk.DiskTree.put_new.Goals as goal

pub make_place-requires-clause-above : goal.make_place-requires-clause-above
make_place-requires-clause-above g c = install-above _ c.args.path.now (length (taken c.args.came.written.events)) c.requires.free c.requires.absent

pub returns-in-Err-clause-refused : goal.returns-in-Err-clause-refused
returns-in-Err-clause-refused g c =
    let place = had c.args.self.now.nodes c.make_place.new.self c.args.root.now c.args.path.now c.requires.absent
    (on-ok c.make_place.result (sym c.is_err.ensures.value ∙ c.if-is_err.false) c.make_place.ensures.ok) in
    let same = c.in-Err.ensures.refused in
    (c.take_away.ensures ∙ ap (λ t. with_part t c.args.root.now (removed (under t c.args.root.now) c.args.path.now)) same.0 ∙ place.back, same.1)

pub returns-clause-put : goal.returns-clause-put
returns-clause-put g c =
    let place = had c.args.self.now.nodes c.make_place.new.self c.args.root.now c.args.path.now c.requires.absent
    (on-ok c.make_place.result (sym c.is_err.ensures.value ∙ c.if-is_err.false) c.make_place.ensures.ok) in
    put-over g.K.Held.holds c.put_at.new.self.version c.args.self.now.nodes c.make_place.new.self c.put_at.new.self.nodes c.args.root.now c.args.path.now
    (taken c.args.came.written.events) c.args.moment.seconds c.args.self.now.device c.put_at.new.self.device place c.in_default.ensures.put
