pub mod passive
pub mod either
pub mod served
