pub mod AssemblyLemmas
pub mod SourceLemmas
pub mod TreeLemmas
