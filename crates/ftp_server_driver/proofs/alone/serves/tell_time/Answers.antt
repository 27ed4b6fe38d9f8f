use Rattle.ftp_server_driver.proofs.alone.Hearing.{still_hears}
use Rattle.ftp_server_driver.proofs.alone.serves.tell_time.Goals as goal

pub returns-clause-hears : goal.returns-clause-hears
returns-clause-hears g c = still_hears c.moment-moment.result.seconds (g.F.Far.server c.args.end.now.server) (g.F.Far.server c.clock.new.self) c.clock.ensures.alone
