pub mod Control
pub mod Counts
pub mod Depths
pub mod Graphs
pub mod Successors
pub mod Walks
