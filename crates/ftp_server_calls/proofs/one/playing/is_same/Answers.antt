use Rattle.ftp_server_calls.proofs.one.PlayLemmas.{counts_apart}
use Rattle.ftp_server_calls.proofs.one.playing.is_same.Goals as goal

pub returns-clause-moved : goal.returns-clause-moved
returns-clause-moved c = λ is. counts_apart c.args.new c.args.old c.eq.result c.eq.ensures is
