pub mod Parts
pub mod Places
pub mod Sums
pub mod Table
pub mod Tests
