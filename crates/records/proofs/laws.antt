-- What is proved of the definitions in specs/.
pub mod Rules
pub mod Fields
pub mod Held
pub mod Lent
pub mod InRange
pub mod Views
pub mod Recorded
pub mod Ready
pub mod Empty
pub mod Tested
pub mod Taken
pub mod Places
