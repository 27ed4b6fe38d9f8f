use Rattle.ftp_nvt.proofs.Theorems.{written_line_is_heard}
use Rattle.ftp_nvt.proofs.laws.written_lines_are_heard.Goals as goal

pub returns : goal.returns
returns c = written_line_is_heard
