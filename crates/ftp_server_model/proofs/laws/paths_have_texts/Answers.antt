use Rattle.ftp_server_model.proofs.PathTexts.{is_path-text, is_path-led, is_path-parent}
use Rattle.ftp_server_model.proofs.laws.paths_have_texts.Goals as goal

pub returns : goal.returns
returns c = record { text = is_path-text; led = is_path-led; parent = is_path-parent }
