pub mod Cells
pub mod Limits
pub mod Moves
pub mod Notes
pub mod Places
pub mod Spans
