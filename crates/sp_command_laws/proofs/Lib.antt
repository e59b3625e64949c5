pub mod CommandLemmas
pub mod EndLemmas
pub mod FormLemmas
pub mod SessionLemmas
pub mod StageLemmas
pub mod TextLemmas
