pub mod Along
pub mod Ends
pub mod Executions
pub mod Histories
pub mod Theorems
