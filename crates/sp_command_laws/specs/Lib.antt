pub mod Commands
pub mod Ends
pub mod Sessions
pub mod Texts
