use Rattle.ftp_path.proofs.TextLemmas.{name-text}
use Rattle.ftp_path.proofs.laws.name_is_path_text.Goals as goal

pub returns : goal.returns
returns c = name-text
