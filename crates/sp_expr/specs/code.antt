pub mod Evaluation
pub mod Level
pub mod Nesting
pub mod Parsing
pub mod Sentence
pub mod States
