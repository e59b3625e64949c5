pub mod Evaluation
pub mod Examples
pub mod Nodes
pub mod Wide
pub mod code
