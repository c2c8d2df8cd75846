-- What is proved of the definitions beside this folder.
pub mod Updates
pub mod Keeps
pub mod Reads
pub mod Admitting
pub mod Picking
pub mod Working
pub mod Elapsing
pub mod Follows
pub mod RecordKept
