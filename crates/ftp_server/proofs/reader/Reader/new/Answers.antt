use Rattle.std.proofs.Common.{[]}
use Rattle.ftp_nvt.proofs.ReaderLemmas.{reader_is_ear}
use Rattle.ftp_server.proofs.reader.Reader.new.Goals as goal

pub returns : goal.returns
returns g c = reader_is_ear c.in-Ok.ear [] c.in-Ok.ensures.heard
