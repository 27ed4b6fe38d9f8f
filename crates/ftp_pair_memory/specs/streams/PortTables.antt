-- What the ports of a data connection in memory told, since a turn of their end began (RFC 959, section 3.2).
use Rattle.std.specs.Prelude.{List}
use Rattle.ftp_ports.specs.Asking.{Asked}
use Rattle.ftp_pair_memory.specs.streams.PortTableMoves.{noted_in}
use Rattle.ftp_pair_memory.specs.declared.streams.port_table.PortTable.{PortTable}

-- what was asked of them since then, the last request first
abbrev pub asked_of : PortTable → List Asked
asked_of port_table = (noted_in port_table.found.items port_table.log.items).asked
