pub mod Held
pub mod Record
pub mod Ranges
pub mod Taken
pub mod Start
pub mod Rules
pub mod Lent
