use Rattle.laws_drivers.proofs.control.Breaking.{clients_are_cut, servers_are_cut}
use Rattle.laws_drivers.proofs.control.laws.drives_that_broke_off_are_cut.Goals as goal

pub returns : goal.returns
returns c = record { servers = servers_are_cut; clients = clients_are_cut }
