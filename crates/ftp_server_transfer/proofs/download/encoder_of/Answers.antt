use Rattle.std.proofs.Common.{sym, ◌∙◌}
use Rattle.ftp_server_transfer.proofs.DownloadLemmas.{plain_wire}
use Rattle.ftp_server_transfer.proofs.download.encoder_of.Goals as goal

pub returns-then-is_plain : goal.returns-then-is_plain
returns-then-is_plain c = λ file few. plain_wire c.args.settings c.args.at file (sym c.is_plain.ensures ∙ c.if-is_plain.true)
