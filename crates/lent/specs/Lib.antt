-- The definitions of this crate, and the laws beside them.
pub mod Lent
pub mod laws
