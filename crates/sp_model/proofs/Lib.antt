pub mod NoteLemmas
pub mod StateLemmas
