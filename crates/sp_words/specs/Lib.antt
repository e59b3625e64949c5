pub mod code
pub mod Annotations
pub mod Manual
pub mod Operators
pub mod Registers
pub mod Reserved
pub mod Words
