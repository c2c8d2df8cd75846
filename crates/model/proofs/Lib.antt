-- What is proved beside the functions themselves.
pub mod laws
