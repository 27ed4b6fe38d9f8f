use Rattle.ftp_server_model.proofs.RepliesWritten.{replies_are_written, replies_have_room}
use Rattle.ftp_server_model.proofs.laws.replies_are_written.Goals as goal

pub returns-clause-written : goal.returns-clause-written
returns-clause-written c = replies_are_written

pub returns-clause-room : goal.returns-clause-room
returns-clause-room c = replies_have_room
