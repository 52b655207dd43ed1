pub mod Header
pub mod Lists
pub mod Row
pub mod Next
pub mod Addr
pub mod Padded
