pub mod LimitLemmas
pub mod ListLemmas
pub mod MoveLemmas
pub mod NoteLemmas
pub mod PlaceLemmas
pub mod StateLemmas
