pub mod Examples
pub mod Kinds
pub mod Laws
pub mod Refusals
pub mod code
