mod ApplyLemmas
mod FormulaLemmas
mod FreshLemmas
mod MemoryLemmas
mod NamedLemmas
mod ReplacementLemmas
mod StackLemmas
mod WorkLemmas
