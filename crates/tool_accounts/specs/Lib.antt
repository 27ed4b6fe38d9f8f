pub mod accounts_file
pub mod field
