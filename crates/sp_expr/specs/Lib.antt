pub mod Arithmetic
pub mod Examples
pub mod Parsing
pub mod Setting
pub mod Trees
pub mod Undefined
pub mod Words
pub mod code
