pub mod HeaderLaws
pub mod AddrLaws
pub mod PaddedLaws
