-- What stays small in a server. The files are in the order in which they are to be read.
pub mod Small
pub mod Laws
pub mod Losses
pub mod Apart
pub mod Lookers
pub mod Links
pub mod Logins
pub mod Maps
