pub mod Branch
pub mod BranchFalls
pub mod Store
