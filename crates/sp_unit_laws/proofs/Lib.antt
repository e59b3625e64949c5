pub mod InstructionLemmas
pub mod OrderLemmas
pub mod RoutineLemmas
pub mod UnitLemmas
