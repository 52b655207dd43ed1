pub mod Canonical
pub mod Demand
pub mod Arrays
pub mod Put
pub mod Form
