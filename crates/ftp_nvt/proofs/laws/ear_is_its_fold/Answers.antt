use Rattle.ftp_nvt.proofs.ReaderLemmas.{reader_is_ear}
use Rattle.ftp_nvt.proofs.laws.ear_is_its_fold.Goals as goal

pub returns : goal.returns
returns c = λ start. reader_is_ear start.args.ear.now
