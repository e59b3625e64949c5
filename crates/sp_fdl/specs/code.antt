-- Definitions that only the code's proofs speak of.
pub mod Names
pub mod Numbers
pub mod Operators
pub mod Reading
pub mod Tokens
