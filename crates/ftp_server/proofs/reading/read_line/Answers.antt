use Rattle.ftp_server.proofs.ShortLemmas.{command_waits}
use Rattle.ftp_server.proofs.reading.read_line.Goals as goal

pub returns-in-Ok-clause-waits : goal.returns-in-Ok-clause-waits
returns-in-Ok-clause-waits g c = command_waits c.args.text.now c.in-Ok.command c.requires c.in-Ok.ensures.says
