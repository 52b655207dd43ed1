pub mod Sheet
pub mod Judged
pub mod Limits
