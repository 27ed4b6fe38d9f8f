pub mod alone
pub mod shared
