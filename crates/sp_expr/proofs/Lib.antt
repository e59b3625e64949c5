pub mod KeptLemmas
pub mod NestingLaws
pub mod RunLaws
pub mod ScanLaws
pub mod SentenceLaws
pub mod TreeLaws
pub mod ValueLaws
pub mod WordLaws
