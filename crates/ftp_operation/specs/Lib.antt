pub mod Account
pub mod Answer
pub mod Operation
pub mod Rights
