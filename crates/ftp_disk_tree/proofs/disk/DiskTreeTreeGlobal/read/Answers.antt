use Rattle.std.proofs.Common.{arith, length}
use Rattle.std.proofs.lemmas.Result.{IfOk-weaker}
use Rattle.ftp_disk_scan.specs.loading.Held.{fit}
use Rattle.ftp_disk_tree.proofs.PutLemmas.{within_left}
use Rattle.ftp_disk_tree.proofs.StrayLemmas.{none-differ}
use Rattle.ftp_disk_scan.proofs.loading.HeldLemmas.{length_fit}
use Rattle.ftp_disk_tree.proofs.disk.DiskTreeTreeGlobal.read.Goals as goal

pub returns-then-want-eq0-clause-strays : goal.returns-then-want-eq0-clause-strays
returns-then-want-eq0-clause-strays g c = omega (arith, none-differ)

pub returns-clause-most : goal.returns-clause-most
returns-clause-most g c =
    let file = c.args.file.now in
    let held = g.K.Held.holds file.version in
    let cut = c.split_at_mut-front.ensures in
    IfOk-weaker c.read.result _ _
    (λ count few. within_left (fit file.len held) c.args.at file.len count c.min-want.result (length c.args.room.now) (length_fit file.len held)
    (omega (arith, c.min-want.ensures, c.saturating_sub-left.ensures)) (omega (arith, few, cut.front_len)))
    c.read.ensures.most
