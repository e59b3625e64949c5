pub mod code
pub mod Command
pub mod Inputs
pub mod Session
pub mod Space
pub mod Stages
pub mod Status
pub mod Texts
