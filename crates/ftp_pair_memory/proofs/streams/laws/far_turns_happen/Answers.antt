use Rattle.laws_drivers.specs.control.Between.{Far}
use Rattle.ftp_server_driver.specs.alone.Side.{server_machine}
use Rattle.ftp_pair_memory.proofs.streams.Happening.{happens}
use Rattle.ftp_pair_memory.proofs.streams.laws.far_turns_happen.Goals as goal

pub returns : goal.returns
returns c = happens Far server_machine
