-- The definitions of this crate, and the laws beside them.
pub mod Says
pub mod Worked
