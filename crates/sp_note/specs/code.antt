-- Definitions that only the code's proofs speak of.
pub mod Answers
pub mod Found
pub mod Frames
pub mod Heads
pub mod Lines
pub mod Operands
pub mod Pairs
pub mod Parser
pub mod Source
