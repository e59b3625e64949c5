pub mod Calls
pub mod Contained
pub mod Examples
pub mod Settled
pub mod Theorems
