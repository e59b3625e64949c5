-- Definitions that only the code's proofs speak of.
pub mod Tables
pub mod Entries
pub mod Places
pub mod Scopes
pub mod Aboves
pub mod Sounds
pub mod Building
