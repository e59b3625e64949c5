pub mod Narrow
pub mod Scope
pub mod Setting
pub mod Small
pub mod Truth
