pub mod DigitLaws
pub mod LoadLaws
pub mod LoopLaws
pub mod RecordLaws
pub mod RowLaws
pub mod TextLaws
pub mod WrittenLaws
