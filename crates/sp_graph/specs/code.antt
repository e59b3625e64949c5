pub mod Before
pub mod Counts
pub mod Outcomes
pub mod Search
pub mod Sorting
