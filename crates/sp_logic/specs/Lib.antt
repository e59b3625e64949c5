pub mod Examples
pub mod Text
pub mod View
pub mod WellFormed
