use Rattle.ftp_server_driver.proofs.shared.Whole.{one_drive}
use Rattle.ftp_server_driver.proofs.shared.laws.turns_are_one_drive.Goals as goal

pub returns : goal.returns
returns c = one_drive
