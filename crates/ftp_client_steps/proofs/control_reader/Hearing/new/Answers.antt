use Rattle.std.proofs.Common.{[]}
use Rattle.ftp_nvt.proofs.ReaderLemmas.{reader_is_ear}
use Rattle.ftp_client_steps.proofs.control_reader.Hearing.new.Goals as goal

pub returns-clause-ear : goal.returns-clause-ear
returns-clause-ear g c = reader_is_ear c.in-Ok.ear [] c.in-Ok.ensures.heard
