use Rattle.std.proofs.Common.{arith}
use Rattle.ftp_tree.specs.Tree.{octets_or_none, under}
use Rattle.ftp_disk_scan.specs.loading.Held.{fit}
use Rattle.ftp_disk_tree.proofs.PutLemmas.{file-deleted, kept-front, no-file}
use Rattle.ftp_disk_scan.proofs.loading.HeldLemmas.{length_fit}
use Rattle.ftp_disk_tree.proofs.disk.DiskTree.old_file.Goals as goal

pub returns-in-Ok : goal.returns-in-Ok
returns-in-Ok g c =
    let part = under c.args.self.now.nodes c.args.root.now in
    let version = c.in-Ok.version.now in
    let octets = fit version.look.len (g.K.Held.holds version.number) in (
      file-deleted part c.args.path.now c.in-Ok.ensures.file,
      kept-front octets (octets_or_none part c.args.path.now) c.args.keep version.look.len c.min.result c.in-Ok.ensures.octets
          (length_fit version.look.len (g.K.Held.holds version.number)) c.min.ensures,
      omega (arith, c.min.ensures),
    )

pub returns-in-Err : goal.returns-in-Err
returns-in-Err g c = no-file (under c.args.self.now.nodes c.args.root.now) c.args.path.now c.in-Err.field-0 c.in-Err.ensures.refused
