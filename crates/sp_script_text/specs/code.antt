pub mod Answers
pub mod Arguments
pub mod Bodies
pub mod Lines
pub mod Refusals
pub mod Stepping
pub mod Table
pub mod Words
