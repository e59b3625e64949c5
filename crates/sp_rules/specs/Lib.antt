pub mod First
pub mod code
