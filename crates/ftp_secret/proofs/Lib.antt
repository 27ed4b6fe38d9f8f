pub mod Taking
pub mod Rounds
pub mod Letters
pub mod Sameness
pub mod WrittenBack
