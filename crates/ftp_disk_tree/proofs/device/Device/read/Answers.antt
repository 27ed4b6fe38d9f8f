use Rattle.std.proofs.Common.{ap, arith, drop, sym, take}
use Rattle.ftp_disk_scan.specs.loading.Held.{fit}
use Rattle.ftp_disk_tree.proofs.StrayLemmas.{held-same}
use Rattle.ftp_disk_tree.proofs.device.Device.read.Goals as goal

pub returns-in-Ok-clause-octets : goal.returns-in-Ok-clause-octets
returns-in-Ok-clause-octets g c = λ calm.
    let held = take c.in-Ok.count (drop c.args.at (fit c.args.file.now.len (g.K.Held.holds c.args.file.now.version))) in
    let before = ap (λ failures. failures.strays) c.self.view_is in
    sym (held-same held (take c.in-Ok.count c.read_noted.new.room) (omega (arith, calm, before, c.in-Ok.ensures.strays)))
