use Rattle.ftp_server_driver.proofs.shared.Slots.{each_is_one_drive}
use Rattle.ftp_server_driver.proofs.shared.laws.each_is_one_drive.Goals as goal

pub returns : goal.returns
returns c = each_is_one_drive
