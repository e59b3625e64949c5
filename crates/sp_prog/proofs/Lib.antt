pub mod ExampleLemmas
pub mod MemberLemmas
pub mod UnitLemmas
