use Rattle.ftp_client_model.proofs.LeavesCalls.{begins_so, each_stays_left}
use Rattle.ftp_client_model.proofs.laws.nothing_is_left.Goals as goal

pub returns : goal.returns
returns c = record { begins = begins_so; stays = each_stays_left }
