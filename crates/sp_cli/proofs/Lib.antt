pub mod EndLemmas
pub mod MadeLemmas
pub mod ReadLemmas
pub mod SessionLemmas
pub mod StageLemmas
pub mod WordLemmas
