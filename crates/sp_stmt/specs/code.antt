-- Definitions that only the code's proofs speak of.
pub mod Answers
pub mod Bodies
pub mod Data
pub mod Expressions
pub mod Held
pub mod Reading
