-- What the lines of a server's listings say, and how they look on a terminal.
pub mod Name
pub mod Lines
pub mod Long
pub mod Json
pub mod ShownRows
pub mod Text
pub mod UnixLine
pub mod Columns
pub mod UnixRows
