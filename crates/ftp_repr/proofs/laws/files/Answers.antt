use Rattle.ftp_repr.proofs.FileLemmas.{file_sent, file_ended, file_cut}
use Rattle.ftp_repr.proofs.laws.files.Goals as goal

pub returns : goal.returns
returns c = record { sent = file_sent; ended = file_ended; cut = file_cut }
