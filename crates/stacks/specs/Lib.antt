pub mod Ascending
pub mod Stack
pub mod Either
pub mod Places
pub mod Together
