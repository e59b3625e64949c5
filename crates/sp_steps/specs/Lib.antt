pub mod Next
pub mod Rewriting
pub mod Rows
pub mod Soundness
pub mod Steps
pub mod Subgoals
