pub mod ExecutionLemmas
