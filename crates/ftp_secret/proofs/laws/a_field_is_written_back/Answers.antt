use Rattle.ftp_secret.proofs.WrittenBack.{read_is}
use Rattle.ftp_secret.proofs.laws.a_field_is_written_back.Goals as goal

pub returns : goal.returns
returns c = read_is
