pub mod Cases
pub mod Digits
pub mod Fresh
pub mod Named
pub mod Outcome
pub mod Rewritten
pub mod StateCode
pub mod Work
