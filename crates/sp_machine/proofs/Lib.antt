pub mod MachineLemmas
pub mod PortLemmas
