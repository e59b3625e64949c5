-- Definitions that only the code's proofs speak of.
pub mod Kinds
pub mod Passes
