pub mod Examples
pub mod Generated
pub mod code
