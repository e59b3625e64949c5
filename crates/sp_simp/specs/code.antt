pub mod Marks
pub mod Plans
pub mod Rows
pub mod Weight
