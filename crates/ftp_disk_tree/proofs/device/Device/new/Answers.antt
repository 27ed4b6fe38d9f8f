use Rattle.std.proofs.Common.{ℕ, ap}
use Rattle.ftp_tree.specs.Change.{Failures}
use Rattle.ftp_disk_tree.proofs.StrayLemmas.{none_strays}
use Rattle.ftp_disk_tree.proofs.device.Device.new.Goals as goal

abbrev none_told : ℕ → Failures
none_told strays = record { told = 0; strays = strays }

pub returns : goal.returns
returns g c = ap none_told (none_strays g.K.Held.holds c.new.result.events c.new.ensures)
