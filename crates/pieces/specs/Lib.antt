-- The definitions of this crate, and the laws beside them.
pub mod Bounds
pub mod Task
pub mod Counts
pub mod laws
