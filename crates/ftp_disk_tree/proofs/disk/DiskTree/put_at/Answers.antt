use Rattle.std.proofs.Common.{◌≡◌, ◌++◌, ap, length, refl, arith, ◌∙◌}
use Rattle.ftp_tree.specs.Tree.{octets_in}
use Rattle.ftp_disk_tree.specs.Note.{taken}
use Rattle.ftp_disk_tree.specs.Stray.{front_of}
use Rattle.ftp_disk_scan.specs.loading.Held.{fit}
use Rattle.ftp_disk_tree.proofs.PutLemmas.{put-is, put-len}
use Rattle.ftp_disk_scan.proofs.loading.HeldLemmas.{length_fit}
use Rattle.ftp_disk_tree.proofs.disk.DiskTree.put_at.Goals as goal

pub put_over-requires-clause-octets : goal.put_over-requires-clause-octets
put_over-requires-clause-octets g c =
    let content = c.new-content.result in
    let counts = c.if-not-can_count.ensures in
    let many : length (fit content.look.len (g.K.Held.holds content.number)) ≡ c.in-Some.len = length_fit content.look.len (g.K.Held.holds content.number) ∙ ap (λ look. look.len) c.new-content.ensures.look in
    let same : octets_in c.put_part.new.self.nodes ≡ octets_in c.args.self.now.nodes = ap octets_in c.put_part.ensures.same.0 in
    omega (arith, many, same, (counts.0 refl).1)

pub returns-clause-put : goal.returns-clause-put
returns-clause-put g c =
    let content = c.new-content.result in
    let came = taken c.args.came.written.events in
    let many = put-len g.K.Held.holds c.args.front came c.in-Some.len c.requires.within (omega (arith, c.in-Some.ensures.1, c.args.came.counted)) in
    put-is g.K.Held.holds c.put_part.new.self.version _ content.number c.in-Some.len content.look.len c.args.self.now.nodes c.put_part.new.self.nodes c.put_over.new.self c.args.root.now
    c.args.path.now (front_of g.K.Held.holds c.args.front ++ came) c.args.moment.seconds c.args.self.now.device c.put_part.new.self.device c.put_part.ensures.same.0
    c.put_part.ensures.same.1 c.new-content.ensures.number (ap (λ look. look.len) c.new-content.ensures.look) many c.put_over.ensures c.in-Ok.ensures.strays c.in-Ok.ensures.told
