use Rattle.std.proofs.Common.{◌+◌, ap, ◌∙◌}
use Rattle.ftp_disk_tree.proofs.StrayLemmas.{changed_strays}
use Rattle.ftp_disk_tree.proofs.device.Device.changed.Goals as goal

pub returns-clause-strays : goal.returns-clause-strays
returns-clause-strays g c =
    changed_strays g.K.Held.holds c.as_slice.result.now c.self.inside.answers.events c.note.new.self.events c.note.ensures
    ∙ ap (λ failures. failures.strays + 1) c.self.view_is
