use Rattle.ftp_server_model.proofs.ServerUploads.{abort_past_room}
use Rattle.ftp_server_model.proofs.rows.abort_past_room.Goals as goal

pub returns : goal.returns
returns c = abort_past_room
