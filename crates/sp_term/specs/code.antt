pub mod Table
pub mod TreeCode
