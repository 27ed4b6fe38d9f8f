use Rattle.ftp_disk_tree.specs.Note.{taken}
use Rattle.ftp_disk_tree.proofs.StrayLemmas.{put_strays}
use Rattle.ftp_disk_tree.proofs.device.note_putting.Goals as goal

pub returns : goal.returns
returns g c = put_strays g.K.Held.holds c.args.putting (taken c.args.written.now.events) c.args.answers.now.events c.adopt.new.self.events c.adopt.ensures
