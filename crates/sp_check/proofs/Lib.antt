pub mod AnswerLemmas
mod AreaLemmas
mod CountLemmas
mod FlowLemmas
mod GraphLemmas
mod JoinLemmas
mod ListLemmas
mod OneUnitLemmas
mod RowLemmas
mod SortedLemmas
mod StructureLemmas
