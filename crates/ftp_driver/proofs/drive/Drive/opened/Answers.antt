use Rattle.ftp_driver.proofs.Words.{has_one}
use Rattle.ftp_driver.proofs.drive.Drive.opened.Goals as goal

pub returns-clause-progresses : goal.returns-clause-progresses
returns-clause-progresses g c before had asks is_had wanted =
    let old = c.args.self.now in
    has_one g.K.EndCalls.machine g.S.Read.remaining g.S.Write.contents old.data.now.connection c.begin.new.self c.args.stream before (g.P.Ports.history old.ports.now) (g.P.Ports.history c.begin.new.ports)
    c.args.host had old.data.now.room c.rest_of-rest.result (g.K.EndCalls.here old.end.now) (g.K.EndCalls.here c.data_opened.new.end) asks is_had wanted c.requires.none c.begin.ensures.asked c.begin.ensures.all c.begin.ensures.rest c.begin.ensures.sound c.begin.ensures.stands c.data_opened.ensures c.rest_of-rest.ensures.rest c.requires.flushed _ _ _
