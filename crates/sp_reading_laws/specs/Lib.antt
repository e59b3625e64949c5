pub mod Expressions
pub mod Sources
