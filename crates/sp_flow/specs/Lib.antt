pub mod Examples
pub mod Flow
pub mod Routes
pub mod Unset
pub mod code
