use Rattle.ftp_driver.proofs.Words.{[], Leads, ends_told, fated_channel, held, refl, standing, subst, sym, with_owner}
use Rattle.ftp_ports.specs.declared.whole.Fate.TheVariants as Fates
use Rattle.ftp_driver.proofs.drive.Drive.tell_end.Goals as goal

pub returns-clause-leads : goal.returns-clause-leads
returns-clause-leads g c =
    let calls = g.K.EndCalls in
    let old = c.args.self.now in
    let at = standing calls.machine calls.here g.R.Read.remaining g.W.Write.contents g.P.Ports.history g.S.Read.remaining g.S.Write.contents old in
    let told = c.told.ensures in
    subst (λ channel. Leads at (with_owner (held (calls.here c.data_end.new.end) channel) at))
    (sym (fated_channel g.S.Read.remaining g.S.Write.contents old.data.now.connection c.told.new.self Fates.Over (g.P.Ports.history old.ports.now) old.data.now.room [] told.stream told.at told.end told.rest told.told))
    (ends_told calls.machine _ _ at.owner.channel c.data_end.ensures c.requires.wants c.requires.ready c.requires.ended.1 refl _ _ _)
