pub mod Memos
pub mod Ranges
pub mod Rules
pub mod Same
pub mod Simple
pub mod Simplified
pub mod code
