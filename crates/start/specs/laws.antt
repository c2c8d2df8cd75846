-- What is proved of the definitions beside this folder.
pub mod Counts
pub mod Beginning
pub mod Demand3
