-- What is proved beside the functions themselves.
pub mod Outcomes
pub mod Sizes
pub mod Columns
pub mod RoundTrip
pub mod ReadBack
