use Rattle.laws_drivers.specs.control.Between.{Near}
use Rattle.ftp_client_driver.specs.Side.{client_machine}
use Rattle.ftp_pair_memory.proofs.streams.Happening.{happens}
use Rattle.ftp_pair_memory.proofs.streams.laws.near_turns_happen.Goals as goal

pub returns : goal.returns
returns c = happens Near client_machine
