pub mod Made
pub mod Put
pub mod Stops
pub mod Views
pub mod After
