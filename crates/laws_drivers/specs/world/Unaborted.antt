-- That no ABOR was sent (RFC 959, section 4.1.3).
use Rattle.std.specs.Prelude.{Bool, true}
use Rattle.ftp_client_model.specs.Dialogue.{is_unsent}
use Rattle.ftp_client_model.specs.View.{Job, Transferring}

-- no ABOR was sent
abbrev pub is_unaborted : Job → Bool
is_unaborted (Transferring op transfer) = is_unsent transfer.abort
is_unaborted job = true
