pub mod Profile
pub mod Profiled
pub mod Carried
