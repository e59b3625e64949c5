pub mod AnnotationLemmas
pub mod NameLemmas
pub mod ReservedLemmas
pub mod SlotLemmas
pub mod TableLemmas
