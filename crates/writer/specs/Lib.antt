-- The definitions of this crate, and the worked tables that hold them to their bytes.
pub mod Written
pub mod Worked
