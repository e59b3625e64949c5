pub mod Breaks
pub mod Names
pub mod Order
pub mod Routines
pub mod Units
