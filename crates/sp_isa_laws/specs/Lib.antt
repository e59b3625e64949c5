pub mod Differences
pub mod Sets
