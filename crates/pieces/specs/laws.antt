-- What is proved of the definitions beside this folder.
pub mod Sums
pub mod Numbers
pub mod Task
pub mod Counts
pub mod Loops
pub mod Bare
