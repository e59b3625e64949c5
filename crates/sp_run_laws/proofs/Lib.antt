pub mod RunLemmas
pub mod StartLemmas
pub mod WordLemmas
