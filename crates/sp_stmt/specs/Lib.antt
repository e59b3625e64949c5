pub mod code
pub mod Examples
pub mod Grammar
pub mod Operands
pub mod Source
pub mod Statements
pub mod Tokens
