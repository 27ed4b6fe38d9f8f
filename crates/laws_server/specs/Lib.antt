pub mod one
pub mod several
