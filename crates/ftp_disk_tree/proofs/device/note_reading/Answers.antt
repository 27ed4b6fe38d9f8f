use Rattle.ftp_disk_tree.proofs.StrayLemmas.{read_strays}
use Rattle.ftp_disk_tree.proofs.device.note_reading.Goals as goal

pub returns : goal.returns
returns g c = read_strays g.K.Held.holds c.args.reading c.args.octets.now c.args.answers.now.events c.note.new.self.events c.note.ensures
