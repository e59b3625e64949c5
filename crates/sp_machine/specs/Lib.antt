pub mod code
pub mod Event
pub mod Ports
