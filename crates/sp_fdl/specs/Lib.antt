pub mod Examples
pub mod Printed
pub mod Text
pub mod code
