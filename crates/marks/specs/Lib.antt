pub mod Marks
pub mod Told
pub mod Steps
pub mod Calls
pub mod Returns
