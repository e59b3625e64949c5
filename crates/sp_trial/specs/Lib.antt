pub mod code
pub mod Judged
pub mod Setup
pub mod Trials
