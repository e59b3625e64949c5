pub mod AnswerLemmas
pub mod EntryLemmas
pub mod EvaluationLemmas
pub mod RunLemmas
pub mod TableLemmas
pub mod TurnLemmas
