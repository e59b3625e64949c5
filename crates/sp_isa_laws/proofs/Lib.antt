pub mod DifferenceLemmas
pub mod SetLemmas
