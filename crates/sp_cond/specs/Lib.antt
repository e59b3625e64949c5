pub mod Calls
pub mod Conclusions
pub mod Examples
pub mod Execution
pub mod Laws
pub mod Start
pub mod WalkConditions
