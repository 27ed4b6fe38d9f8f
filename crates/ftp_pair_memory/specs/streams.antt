pub mod LinkState
pub mod Claims
pub mod PortTables
pub mod PortTableMoves
pub mod MemoryEnds
pub mod Order
pub mod Plain
