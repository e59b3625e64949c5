pub mod Hex
pub mod Load
pub mod Refusals
pub mod code
