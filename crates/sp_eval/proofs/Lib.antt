pub mod BoundLemmas
pub mod NarrowLemmas
pub mod RangeLemmas
pub mod SmallLemmas
pub mod TotalLemmas
pub mod TruthLemmas
