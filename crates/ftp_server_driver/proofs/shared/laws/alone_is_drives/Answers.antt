use Rattle.ftp_server_driver.proofs.shared.Lone.{alone, among}
use Rattle.ftp_server_driver.proofs.shared.laws.alone_is_drives.Goals as goal

pub returns : goal.returns
returns c = record {
  alone = λ failed start now r unwritten untold drives. alone start unwritten untold failed now r drives;
  among = λ failed start now r unwritten untold drives. among start unwritten untold failed now r drives;
}
