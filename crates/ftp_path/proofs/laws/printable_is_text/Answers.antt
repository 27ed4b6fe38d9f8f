use Rattle.ftp_path.proofs.TextLemmas.{printable-text, printable-name}
use Rattle.ftp_path.proofs.laws.printable_is_text.Goals as goal

pub returns : goal.returns
returns c = record { texts = printable-text; names = printable-name }
