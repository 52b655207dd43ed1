pub mod SheetLaws
pub mod LimitLaws
pub mod Putting
pub mod Getting
pub mod Tested
pub mod Answers
