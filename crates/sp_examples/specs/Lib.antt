pub mod Images
pub mod Notes
pub mod States
pub mod Units
