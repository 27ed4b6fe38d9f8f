use Rattle.ftp_server_model.proofs.CallLemmas.{start_keeps, each_call_keeps}
use Rattle.ftp_server_model.proofs.HeldLemmas.{keeps_little}
use Rattle.ftp_server_model.proofs.UploadLemmas.{upload_octet_keeps}
use Rattle.ftp_server_model.proofs.laws.calls_keep_limits.Goals as goal

pub returns : goal.returns
returns c = record { start = start_keeps; calls = each_call_keeps; octets = upload_octet_keeps; little = keeps_little }
